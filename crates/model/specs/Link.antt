-- Causal links and threats. Source: Algorithm 1 of Muise, Beck and McIlraith; Siddiqui and Haslum, section 2; in the words of docs/RULES.md 'The planning rules'.
-- Stands on Plan and Order.
use Rattle.std.specs.Prelude.{◌≡◌, Bool, true, ℕ, suc, ◌≤◌}
use Rattle.model.specs.Plan.{Plan}
use Rattle.model.specs.Order.{Before}

-- a link is producer, fact, consumer (Siddiqui and Haslum, section 2)
pub record Link : Type 0 where
  pub producer : ℕ
  pub fact : ℕ
  pub consumer : ℕ

-- step t threatens a link: it deletes the fact and neither is before the producer nor comes after the consumer.
-- Siddiqui and Haslum's wording would let a consumer threaten its own need; Algorithm 1 leaves the consumer out, and that decides.
pub record Threat (P : Plan) (R : ℕ → ℕ → Bool) (link : Link) (t : ℕ) : Type 0 where
  pub step : t ≤ suc P.n
  pub deletes : P.deletes t link.fact ≡ true
  pub other : t ≡ link.consumer → ⊥
  pub not_before : Before P.n R t link.producer → ⊥
  pub not_after : Before P.n R link.consumer t → ⊥

-- a link is good if the producer adds the fact, the producer is before the consumer, and no step threatens it
pub record Good (P : Plan) (R : ℕ → ℕ → Bool) (link : Link) : Type 0 where
  pub adds : P.adds link.producer link.fact ≡ true
  pub before : Before P.n R link.producer link.consumer
  pub safe : (t : ℕ) → Threat P R link t → ⊥

-- each need of each consumer 1 to n + 1 has some one producer that makes a good link (the bare check, by the rule of Siddiqui and Haslum)
abbrev pub Served : Plan → (ℕ → ℕ → Bool) → Type 0
Served P R =
    (consumer fact : ℕ) → 1 ≤ consumer → consumer ≤ suc P.n → P.needs consumer fact ≡ true
    → (producer : ℕ) × Good P R (record { producer = producer; fact = fact; consumer = consumer })
