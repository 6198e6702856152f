-- The rising order of sequences: Lower, which goes by places, is the order Lex, which goes by heads;
-- Lower is a strict order, and total on lists of one length. Stands on the definitions only. Assumes nothing.
use Rattle.std.proofs.Common.{◌≡◌, refl, sym, ◌∙◌, List, [], ◌∷◌, ◌⊎◌, inl, inr, ◌↔◌, ℕ, zero, suc, ◌≤◌, ◌<◌, arith, length, get_or}
use native.Mathlib.Decide.{ℕ_discrete, dec_lt}
use Rattle.model.specs.Sequence.{Lower}

-- s comes before t: its head is lower, or the heads are the same and its rest comes before t's
abbrev pub Lex : List ℕ → List ℕ → Type 0
Lex [] t = ⊥
Lex (x ∷ s) [] = ⊥
Lex (x ∷ s) (y ∷ t) = (x < y) ⊎ ((x ≡ y) × Lex s t)

-- the same list, or one that comes before
abbrev pub AtMost : List ℕ → List ℕ → Type 0
AtMost s t = (s ≡ t) ⊎ Lex s t

-- the same head in front of both
pub at_most_behind : {x y : ℕ} {s t : List ℕ} → x ≡ y → AtMost s t → AtMost (x ∷ s) (y ∷ t)
at_most_behind e (inl q) = inl (cc)
at_most_behind e (inr l) = inr (inr (e, l))

-- a lower head makes a list lower
lower_head : {x y : ℕ} (s t : List ℕ) → x < y → Lower (x ∷ s) (y ∷ t)
lower_head s t l = record { place = 0; in_s = omega arith; in_t = omega arith; same = λ p h. absurd (omega arith); lower = l }

-- so does a lower rest behind the same head
lower_behind : {x y : ℕ} {s t : List ℕ} → x ≡ y → Lower s t → Lower (x ∷ s) (y ∷ t)
lower_behind {x} {y} {s} {t} e w = record {
  place = suc w.place;
  in_s = omega (arith, w.in_s);
  in_t = omega (arith, w.in_t);
  same = same;
  lower = w.lower;
}
  where
    same : (p : ℕ) → p < suc w.place → get_or (x ∷ s) p 0 ≡ get_or (y ∷ t) p 0
    same zero h = e
    same (suc p) h = w.same p (omega arith)

-- what comes before is lower
pub lex_lower : (s t : List ℕ) → Lex s t → Lower s t
lex_lower [] t l = absurd l
lex_lower (x ∷ s) [] l = absurd l
lex_lower (x ∷ s) (y ∷ t) (inl l) = lower_head s t l
lex_lower (x ∷ s) (y ∷ t) (inr l) = lower_behind l.0 (lex_lower s t l.1)

-- what is lower comes before
pub lower_lex : (s t : List ℕ) → Lower s t → Lex s t
lower_lex [] t w = omega (arith, w.in_s)
lower_lex (x ∷ s) [] w = omega (arith, w.in_t)
lower_lex (x ∷ s) (y ∷ t) w = go w.place w.in_s w.in_t w.same w.lower (lower_lex s t)
  where
    go : (k : ℕ) → k < suc (length s) → k < suc (length t) → ((p : ℕ) → p < k → get_or (x ∷ s) p 0 ≡ get_or (y ∷ t) p 0)
        → get_or (x ∷ s) k 0 < get_or (y ∷ t) k 0 → (Lower s t → Lex s t) → Lex (x ∷ s) (y ∷ t)
    go zero a b h l f = inl l
    go (suc k) a b h l f =
        inr (h 0 (omega arith), f (record { place = k; in_s = omega arith; in_t = omega arith; same = λ p c. h (suc p) (omega arith); lower = l }))

-- the two orders are one
pub lex_is_lower : (s t : List ℕ) → Lex s t ↔ Lower s t
lex_is_lower s t = (lex_lower s t, lower_lex s t)

-- the same list, or one that is lower
pub at_most_lower : (s t : List ℕ) → AtMost s t → (s ≡ t) ⊎ Lower s t
at_most_lower s t (inl e) = inl e
at_most_lower s t (inr l) = inr (lex_lower s t l)

-- no list is lower than itself
pub lower_itself : (s : List ℕ) → Lower s s → ⊥
lower_itself s w = omega (arith, w.lower)

-- what is lower than a list that is lower than another is lower than that other
pub lower_chain : {s t u : List ℕ} → Lower s t → Lower t u → Lower s u
lower_chain {s} {t} {u} v w = go (dec_lt v.place w.place) (ℕ_discrete v.place w.place)
  where
    at : (p : ℕ) → get_or s p 0 ≤ get_or t p 0 → get_or t p 0 < get_or u p 0 → get_or s p 0 < get_or u p 0
    at p a b = omega arith

    go : Dec (v.place < w.place) → Dec (v.place ≡ w.place) → Lower s u
    go (yes h) d = record {
      place = v.place;
      in_s = v.in_s;
      in_t = omega (arith, w.in_t);
      same = λ p l. v.same p l ∙ w.same p (omega arith);
      lower = rw (← w.same v.place h) v.lower;
    }
    go (no h) d = record {
      place = w.place;
      in_s = omega (arith, v.in_s);
      in_t = w.in_t;
      same = λ p l. v.same p (omega arith) ∙ w.same p l;
      lower = at w.place (head d) w.lower;
    }
      where
        head : Dec (v.place ≡ w.place) → get_or s w.place 0 ≤ get_or t w.place 0
        head (yes e) = rw (← e) (omega (arith, v.lower))
        head (no ne) = omega (arith, v.same w.place (omega arith))

-- of two lists of one length one is lower, or they are the same
pub lower_total : (s t : List ℕ) → length s ≡ length t → Lower s t ⊎ ((s ≡ t) ⊎ Lower t s)
lower_total [] [] e = inr (inl refl)
lower_total [] (y ∷ t) e = absurd (omega arith)
lower_total (x ∷ s) [] e = absurd (omega arith)
lower_total (x ∷ s) (y ∷ t) e = heads (dec_lt x y) (dec_lt y x) (lower_total s t (omega arith))
  where
    rests : x ≡ y → Lower s t ⊎ ((s ≡ t) ⊎ Lower t s) → Lower (x ∷ s) (y ∷ t) ⊎ ((x ∷ s ≡ y ∷ t) ⊎ Lower (y ∷ t) (x ∷ s))
    rests q (inl w) = inl (lower_behind q w)
    rests q (inr (inl r)) = inr (inl (cc))
    rests q (inr (inr w)) = inr (inr (lower_behind (sym q) w))

    heads : Dec (x < y) → Dec (y < x) → Lower s t ⊎ ((s ≡ t) ⊎ Lower t s) → Lower (x ∷ s) (y ∷ t) ⊎ ((x ∷ s ≡ y ∷ t) ⊎ Lower (y ∷ t) (x ∷ s))
    heads (yes l) d r = inl (lower_head s t l)
    heads (no g) (yes l) r = inr (inr (lower_head t s l))
    heads (no g) (no h) r = rests (omega arith) r
