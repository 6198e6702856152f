-- The needs of a plan in the order of its links: how many there are, where those of one consumer stand, and that they rise.
-- Assumes nothing.
use Rattle.std.proofs.Common.{◌≡◌, refl, sym, ap, ◌∙◌, true, List, [], ◌∷◌, ◌++◌, map, ◌⊎◌, inl, inr, ℕ, zero, suc, ◌+◌, ◌-◌, ◌*◌, ◌≤◌, ◌<◌, not-suc-le-zero, arith, length, get_or, length-append, get_or-append-add}
use native.Mathlib.Decide.{ℕ_discrete, dec_lt}
use lib.ListN.{length-map, get_or-append}
use Rattle.sets.specs.Test.{bit, sum_to, size, members_from}
use Rattle.sets.specs.Word.{has, count, members}
use Rattle.sets.proofs.Members.{members_length, from_has, has_from, from_rising}
use Rattle.sets.proofs.Sums.{sum_head, sum_zero, sum_at_most, size_le}
use Rattle.sets.proofs.Words.{has_none, has_under}
use Rattle.plan.specs.declared.words.Need.{Need}
use Rattle.plan.specs.Layout.{steps_of, needs_of}
use Rattle.plan.specs.Links.{need_for, needs_from, need_list, needs_below, need_count}
use Rattle.plan.proofs.Layouts.{low_step, needs_step, steps_at_most}

-- ---- sums and lists

-- a sum of more terms is no lower
sum_rises : (f : ℕ → ℕ) (i j : ℕ) → i ≤ j → sum_to f i ≤ sum_to f j
unfolding sum_to
sum_rises f i zero h = let e : i ≡ 0 = omega arith in rw e (omega arith)
sum_rises f i (suc j) h = go (ℕ_discrete i (suc j)) (sum_rises f i j)
  where
    go : Dec (i ≡ suc j) → (i ≤ j → sum_to f i ≤ sum_to f j) → sum_to f i ≤ sum_to f (suc j)
    go (yes e) r = rw e (omega arith)
    go (no ne) r = let a : sum_to f i ≤ sum_to f j = r (omega arith) in omega arith

-- a number below a sum falls within one of its terms
sum_place : (f : ℕ → ℕ) (n k : ℕ) → k < sum_to f n → (c : ℕ) × (m : ℕ) × (c < n) × (m < f c) × (k ≡ sum_to f c + m)
unfolding sum_to
sum_place f zero k h = absurd (not-suc-le-zero h)
sum_place f (suc n) k h = go (dec_lt k (sum_to f n)) (sum_place f n k)
  where
    go : Dec (k < sum_to f n) → (k < sum_to f n → (c : ℕ) × (m : ℕ) × (c < n) × (m < f c) × (k ≡ sum_to f c + m))
        → (c : ℕ) × (m : ℕ) × (c < suc n) × (m < f c) × (k ≡ sum_to f c + m)
    go (yes l) r = let w = r l in (w.0, w.1, omega (arith, w.2), w.3, w.4)
    go (no l) r = (n, k - sum_to f n, omega arith, omega arith, omega arith)

-- an element of a list under a function, whatever stands past its end
get_d_map : (f : ℕ → Need) (l : List ℕ) (m x : ℕ) (d : Need) → m < length l → get_or (map f l) m d ≡ f (get_or l m x)
get_d_map f [] m x d h = absurd (not-suc-le-zero h)
get_d_map f (y ∷ l) zero x d h = refl
get_d_map f (y ∷ l) (suc m) x d h = get_d_map f l m x d (omega arith)

-- the empty word has no member
count_none : count 0 ≡ 0
unfolding count size
count_none = sum_zero (λ i. bit (has 0 i)) 64 (λ i l. ap bit (has_none i))

-- a word has at most 64 members
pub count_at_most : (w : ℕ) → count w ≤ 64
unfolding count
count_at_most w = size_le (has w) 64

-- the members of a word are sought from 0 to 63
members_from_lem : (w : ℕ) → members w ≡ members_from (has w) 0 64
unfolding members
members_from_lem w = refl

-- each member is a number of the word
members_has : (w m : ℕ) → m < count w → has w (get_or (members w) m 64) ≡ true
members_has w m h = let l : m < length (members w) = rw members_length h in rw members_from_lem (from_has (has w) 0 64 m 64 (rw members_from_lem at l)).0

-- each number of the word is a member
has_members : (w x : ℕ) → has w x ≡ true → (m : ℕ) × (m < count w) × (get_or (members w) m 64 ≡ x)
has_members w x e =
    let r = has_from (has w) 0 64 x 64 (omega arith) (let l : x < 64 = has_under w x e in omega arith) e in
    (r.0, rw (← members_length w, members_from_lem) r.1, rw members_from_lem r.2)

-- members rise
members_rise : (w p q : ℕ) → p < q → q < count w → get_or (members w) p 64 < get_or (members w) q 64
members_rise w p q l h = let k : q < length (members w) = rw members_length h in rw members_from_lem (from_rising (has w) 0 64 64 p q l (rw members_from_lem at k))

module _ (words : List ℕ) where
  -- ---- the definitions, one step at a time

  -- no step is below the start
  pub below_zero : 0 ≡ needs_below words 0
  unfolding needs_below
  below_zero = refl

  -- one step on, its needs are below too
  pub below_suc : (i : ℕ) → needs_below words (suc i) ≡ needs_below words i + count (needs_of words i)
  unfolding needs_below
  below_suc i = refl

  -- the needs below a step are a sum
  below_sum : (i : ℕ) → needs_below words i ≡ sum_to (λ c. count (needs_of words c)) i
  unfolding needs_below
  below_sum i = refl

  -- the needs are those below the step past the end
  pub count_below : need_count words ≡ needs_below words (suc (suc (steps_of words)))
  unfolding need_count
  count_below = refl

  -- no consumers have no needs
  pub from_zero : (c : ℕ) → needs_from words c zero ≡ []
  unfolding needs_from
  from_zero c = refl

  -- one consumer's needs stand before those of the next ones
  from_suc : (c k : ℕ) → needs_from words c (suc k) ≡ map (need_for c) (members (needs_of words c)) ++ needs_from words (suc c) k
  unfolding needs_from
  from_suc c k = refl

  -- the needs in the order of the links are those of the consumers 1 to n + 1
  pub list_from : need_list words ≡ needs_from words 1 (suc (steps_of words))
  unfolding need_list
  list_from = refl

  -- ---- how many

  -- the start needs nothing
  start_count : count (needs_of words 0) ≡ 0
  start_count = ap count (sym (needs_step words (steps_of words) 0 0 refl (λ e. omega arith) (low_step words 0 0 (omega arith)))) ∙ count_none

  -- so nothing is needed below step 1
  pub below_one : needs_below words 1 ≡ 0
  below_one = omega (arith, below_suc 0, below_zero, start_count)

  -- a later step has no fewer needs below it
  below_rises : (i j : ℕ) → i ≤ j → needs_below words i ≤ needs_below words j
  below_rises i j h = rw (below_sum i, below_sum j) (sum_rises (λ c. count (needs_of words c)) i j h)

  -- what one consumer needs lies within the needs
  pub needs_below_sum : (c : ℕ) → c ≤ suc (steps_of words) → needs_below words c + count (needs_of words c) ≤ need_count words
  needs_below_sum c h = omega (arith, count_below, below_suc c, below_rises (suc c) (suc (suc (steps_of words))) (omega arith))

  -- each step below has at most 64
  pub below_at_most : (i : ℕ) → needs_below words i ≤ 64 * i
  below_at_most i = rw (below_sum i) (sum_at_most (λ c. count (needs_of words c)) 64 i (λ c l. count_at_most (needs_of words c)))

  -- each of 63 consumers has at most 64
  pub need_count_at_most : need_count words ≤ 4032
  need_count_at_most =
      let n = steps_of words in
      let a = sum_at_most (λ i. count (needs_of words (suc i))) 64 (suc n) (λ i l. count_at_most (needs_of words (suc i))) in
      let b = sum_head (λ i. count (needs_of words i)) (suc n) in
      omega (arith, count_below, below_sum (suc (suc n)), a, b, start_count, steps_at_most words)

  -- the needs from one consumer on are as many as their sum says
  from_length : (c k : ℕ) → length (needs_from words c k) + needs_below words c ≡ needs_below words (c + k)
  from_length c zero = let e : c + 0 ≡ c = omega arith in rw (e, from_zero) (omega arith)
  from_length c (suc k) =
      let e : c + suc k ≡ suc c + k = omega arith in
      rw (e, from_suc, length-append, length-map, members_length) (omega (arith, below_suc c, from_length (suc c) k))

  -- the list of the needs is as long as the count of ones says
  pub needs_length : length (need_list words) ≡ need_count words
  needs_length =
      let e : 1 + suc (steps_of words) ≡ suc (suc (steps_of words)) = omega arith in
      rw list_from (omega (arith, count_below, below_one, rw e at (from_length 1 (suc (steps_of words)))))

  -- ---- where the needs of one consumer stand

  -- a place among the needs of the first consumer
  pub from_here : (c k m : ℕ) → m < count (needs_of words c) → get_or (needs_from words c (suc k)) m (need_for 0 0) ≡ need_for c (get_or (members (needs_of words c)) m 64)
  from_here c k m h =
      let l : m < length (members (needs_of words c)) = rw members_length h in
      rw from_suc
      (get_or-append (map (need_for c) (members (needs_of words c))) (needs_from words (suc c) k) (need_for 0 0) m (rw length-map l)
      ∙ get_d_map (need_for c) (members (needs_of words c)) m 64 (need_for 0 0) l)

  -- a place after them
  pub from_past : (c k m : ℕ) → get_or (needs_from words c (suc k)) (count (needs_of words c) + m) (need_for 0 0) ≡ get_or (needs_from words (suc c) k) m (need_for 0 0)
  from_past c k m =
      let own = map (need_for c) (members (needs_of words c)) in
      let l : length own ≡ count (needs_of words c) = length-map (members (needs_of words c)) (need_for c) ∙ members_length (needs_of words c) in
      rw (from_suc, ← l) (get_or-append-add own (needs_from words (suc c) k) m (need_for 0 0))

  -- the needs of the steps past j stand after those of the steps up to j
  from_skip : (j k m : ℕ) → get_or (needs_from words 1 (j + k)) (needs_below words (suc j) + m) (need_for 0 0) ≡ get_or (needs_from words (suc j) k) m (need_for 0 0)
  from_skip zero k m =
      let a : 0 + k ≡ k = omega arith in
      let b : needs_below words 1 + m ≡ m = omega (arith, below_one) in
      rw (a, b) refl
  from_skip (suc j) k m =
      let a : suc j + k ≡ j + suc k = omega arith in
      let b : needs_below words (suc (suc j)) + m ≡ needs_below words (suc j) + (count (needs_of words (suc j)) + m) = omega (arith, below_suc (suc j)) in
      rw (a, b) (from_skip j (suc k) (count (needs_of words (suc j)) + m) ∙ from_past (suc j) k m)

  -- the links of one consumer stand after those of the lower steps, facts rising
  pub need_at_stretch : (c m : ℕ) → 1 ≤ c → c ≤ suc (steps_of words) → m < count (needs_of words c)
      → get_or (need_list words) (needs_below words c + m) (need_for 0 0) ≡ need_for c (get_or (members (needs_of words c)) m 64)
  need_at_stretch zero m a b h = absurd (omega arith)
  need_at_stretch (suc j) m a b h =
      let e : suc (steps_of words) ≡ j + suc (steps_of words - j) = omega arith in
      rw (list_from, e) (from_skip j (suc (steps_of words - j)) m ∙ from_here (suc j) (steps_of words - j) m h)

  -- each need of a consumer is listed
  pub need_listed : (c f : ℕ) → 1 ≤ c → c ≤ suc (steps_of words) → has (needs_of words c) f ≡ true
      → (k : ℕ) × (k < need_count words) × (get_or (need_list words) k (need_for 0 0) ≡ need_for c f)
  need_listed c f a b e =
      let w = has_members (needs_of words c) f e in
      (needs_below words c + w.0, omega (arith, w.1, needs_below_sum c b), need_at_stretch c w.0 a b w.1 ∙ ap (need_for c) w.2)

  -- ---- what is listed

  -- where need k stands: which consumer's it is, and at which place among that consumer's
  record Place (k : ℕ) : Type 0 where
    consumer : ℕ
    at : ℕ
    low : 1 ≤ consumer
    high : consumer ≤ suc (steps_of words)
    own : at < count (needs_of words consumer)
    place : k ≡ needs_below words consumer + at
    listed : get_or (need_list words) k (need_for 0 0) ≡ need_for consumer (get_or (members (needs_of words consumer)) at 64)

  -- every need has such a place
  place_of : (k : ℕ) → k < need_count words → Place k
  place_of k h = go (sum_place (λ c. count (needs_of words c)) (suc (suc (steps_of words))) k (rw (← below_sum, ← count_below) h))
    where
      go : (c : ℕ) × (m : ℕ) × (c < suc (suc (steps_of words))) × (m < count (needs_of words c)) × (k ≡ sum_to (λ c. count (needs_of words c)) c + m) → Place k
      go (zero, m, l, o, e) = absurd (omega (arith, start_count))
      go (suc c, m, l, o, e) =
          let p : k ≡ needs_below words (suc c) + m = rw (below_sum (suc c)) e in
          record {
            consumer = suc c;
            at = m;
            low = omega arith;
            high = omega arith;
            own = o;
            place = p;
            listed = rw p (need_at_stretch (suc c) m (omega arith) (omega arith) o);
          }

  -- each listed need is one of a consumer of 1 to n + 1
  pub listed_need : (k : ℕ) → k < need_count words
      → (1 ≤ (get_or (need_list words) k (need_for 0 0)).consumer)
      × ((get_or (need_list words) k (need_for 0 0)).consumer ≤ suc (steps_of words))
      × (has (needs_of words (get_or (need_list words) k (need_for 0 0)).consumer) (get_or (need_list words) k (need_for 0 0)).fact ≡ true)
  listed_need k h =
      let p = place_of k h in
      rw p.listed (p.low, p.high, members_has (needs_of words p.consumer) p.at p.own)

  -- consumers rise, and facts within one
  pub needs_rise : (p q : ℕ) → p < q → q < need_count words
      → ((get_or (need_list words) p (need_for 0 0)).consumer < (get_or (need_list words) q (need_for 0 0)).consumer)
      ⊎ (((get_or (need_list words) p (need_for 0 0)).consumer ≡ (get_or (need_list words) q (need_for 0 0)).consumer)
      × ((get_or (need_list words) p (need_for 0 0)).fact < (get_or (need_list words) q (need_for 0 0)).fact))
  needs_rise p q l h =
      let a = place_of p (omega arith) in
      let b = place_of q h in
      rw (a.listed, b.listed) (go a b (dec_lt a.consumer b.consumer) (dec_lt b.consumer a.consumer))
    where
      go : (a : Place p) (b : Place q) → Dec (a.consumer < b.consumer) → Dec (b.consumer < a.consumer) → (a.consumer < b.consumer)
          ⊎ ((a.consumer ≡ b.consumer) × (get_or (members (needs_of words a.consumer)) a.at 64 < get_or (members (needs_of words b.consumer)) b.at 64))
      go a b (yes u) v = inl u
      go a b (no u) (yes v) =
          absurd (omega (arith, a.place, b.place, b.own, below_suc b.consumer, below_rises (suc b.consumer) a.consumer (omega arith)))
      go a b (no u) (no v) =
          let e : a.consumer ≡ b.consumer = omega arith in
          let s : needs_below words a.consumer ≡ needs_below words b.consumer = ap (needs_below words) e in
          inr (e, rw e (members_rise (needs_of words b.consumer) a.at b.at (omega (arith, a.place, b.place)) b.own))
