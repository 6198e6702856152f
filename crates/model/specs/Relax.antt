-- The relaxer: Algorithm 1 of Muise, Beck and McIlraith over the sequence 1 to n, in the words of docs/RULES.md 'The planning rules'.
-- Stands on Plan and Link. A pair that is kept is kept for one of three causes; the pairs of start and end are dropped.
use Rattle.std.specs.Prelude.{◌≡◌, refl, Bool, true, false, ◌&&◌, ◌||◌, List, [], ◌∷◌, ℕ, zero, suc, ◌-◌, ◌≤◌, ◌<◌, ◌==◌, nat_lt, if◌then◌else◌}
use Rattle.std.proofs.Math.Option.{Option, none, some, get_or}
use Rattle.sets.specs.Test.{up_to, any}
use Rattle.model.specs.Plan.{Plan}

-- the walk back for a fact, at step k, with the producer so far: a step that adds the fact becomes the producer so far,
-- a step that deletes it ends the walk, the start is the last step visited (Algorithm 1)
unfoldable pub walk_back : Plan → ℕ → ℕ → Option ℕ → Option ℕ
walk_back P fact zero producer = if P.adds zero fact then some zero else producer
walk_back P fact (suc k) producer =
    let so_far = if P.adds (suc k) fact then some (suc k) else producer in
    let further = walk_back P fact k so_far in
    if P.deletes (suc k) fact then so_far else further

-- the producer that the walk finds for a consumer's need, from the step before the consumer on
unfoldable pub found : Plan → ℕ → ℕ → Option ℕ
unfolding walk_back
found P consumer fact = walk_back P fact (consumer - 1) none

-- p is the earliest step that adds the fact with no deleter of it between that step and the consumer; each earlier step that
-- adds the fact has a deleter of it after it, p at the latest. proofs/Relaxing.antt says that this is what the walk finds.
pub record Earliest (P : Plan) (consumer fact p : ℕ) : Type 0 where
  pub before : p < consumer
  pub adds : P.adds p fact ≡ true
  pub kept : (d : ℕ) → p < d → d < consumer → P.deletes d fact ≡ false
  pub earliest : (q : ℕ) → q < p → P.adds q fact ≡ true → (d : ℕ) × (q < d) × (d ≤ p) × (P.deletes d fact ≡ true)

-- the fact is lost for the consumer: each step before it that adds the fact has a deleter of it after it, before the consumer
abbrev pub Lost : Plan → ℕ → ℕ → Type 0
Lost P consumer fact =
    (q : ℕ) → q < consumer → P.adds q fact ≡ true → (d : ℕ) × (q < d) × (d < consumer) × (P.deletes d fact ≡ true)

-- why i is kept before j
pub data Kept (P : Plan) (i j : ℕ) : Type 0 where
  -- i is the producer of a need of j
  link : (fact : ℕ) → 1 ≤ j → j ≤ suc P.n → P.needs j fact ≡ true → found P j fact ≡ some i → Kept P i j
  -- i deletes a fact for which j is the producer, and is earlier than j
  earlier : (consumer fact : ℕ) → 1 ≤ consumer → consumer ≤ suc P.n → P.needs consumer fact ≡ true → found P consumer fact ≡ some j
      → P.deletes i fact ≡ true → i < j → Kept P i j
  -- j deletes a fact that i needs, and is later than i
  later : (fact : ℕ) → 1 ≤ i → i ≤ suc P.n → P.needs i fact ≡ true → P.deletes j fact ≡ true → i < j → Kept P i j

-- ---- the same as tests that compute, over the facts below F

-- every fact that is needed is below F
abbrev pub NeedsBelow : ℕ → Plan → Type 0
NeedsBelow F P = (i fact : ℕ) → P.needs i fact ≡ true → fact < F

-- the walk finds p for a consumer's need
unfoldable pub finds : Plan → ℕ → ℕ → ℕ → Bool
unfolding found
finds P consumer fact p = elim (found P consumer fact) [ none ↦ false | some q ↦ q == p ]

-- i is the producer of a need of j
unfoldable pub kept_link : Plan → ℕ → ℕ → ℕ → Bool
unfolding finds any
kept_link P F i j = any (λ fact. P.needs j fact && finds P j fact i) F

-- i deletes a fact for which j is the producer, and is earlier than j
unfoldable pub kept_earlier : Plan → ℕ → ℕ → ℕ → Bool
unfolding finds any
kept_earlier P F i j =
    nat_lt i j && any (λ fact. P.deletes i fact && any (λ consumer. P.needs consumer fact && finds P consumer fact j) (suc (suc P.n))) F

-- j deletes a fact that i needs, and is later than i
unfoldable pub kept_later : Plan → ℕ → ℕ → ℕ → Bool
unfolding any
kept_later P F i j = nat_lt i j && any (λ fact. P.needs i fact && P.deletes j fact) F

-- the relaxed pairs: those kept between the steps 1 to n
unfoldable pub relaxed : Plan → ℕ → ℕ → ℕ → Bool
unfolding kept_link kept_earlier kept_later up_to
relaxed P F i j = (up_to P.n i && up_to P.n j) && (kept_link P F i j || (kept_earlier P F i j || kept_later P F i j))

-- the link of a need: the producer that the walk finds
unfoldable pub producer_of : Plan → ℕ → ℕ → ℕ
unfolding found
producer_of P consumer fact = get_or (found P consumer fact) 0

-- ---- the sequence that is relaxed

-- k numbers from i on, rising
unfoldable pub numbers_from : ℕ → ℕ → List ℕ
numbers_from i zero = []
numbers_from i (suc k) = i ∷ numbers_from (suc i) k

-- the sequence 1, 2, .. n
unfoldable pub line : ℕ → List ℕ
unfolding numbers_from
line n = numbers_from 1 n

-- an example: the sequence of three steps
line_three : line 3 ≡ 1 ∷ 2 ∷ 3 ∷ []
unfolding line
line_three = refl
