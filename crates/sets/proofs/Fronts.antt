-- A list whose front has been replaced: by its image under f (map in place), or by another list's front (copy). One store moves the seam.
-- Assumes nothing.
use Rattle.std.proofs.Common.{◌≡◌, refl, ap, ◌∙◌, subst, List, [], ◌∷◌, ◌++◌, map, ℕ, zero, suc, ◌+◌, ◌≤◌, ◌<◌, le_of_suc-le-suc, not-suc-le-zero, le_trans, add-one, length, get_or, set, take, drop}
use lib.Seq.{take-length}

-- map in place: f has been applied to the first i elements
abbrev pub front : (ℕ → ℕ) → ℕ → List ℕ → List ℕ
front f i l = map f (take i l) ++ drop i l

front_length : (f : ℕ → ℕ) (i : ℕ) (l : List ℕ) → length (front f i l) ≡ length l
front_length f zero l = refl
front_length f (suc i) [] = refl
front_length f (suc i) (x ∷ xs) = ap suc (front_length f i xs)

front_get : (f : ℕ → ℕ) (i : ℕ) (l : List ℕ) → get_or (front f i l) i 0 ≡ get_or l i 0
front_get f zero l = refl
front_get f (suc i) [] = refl
front_get f (suc i) (x ∷ xs) = front_get f i xs

front_set : (f : ℕ → ℕ) (i : ℕ) (l : List ℕ) → i < length l → set (front f i l) i (f (get_or l i 0)) ≡ front f (suc i) l
front_set f i [] h = absurd (not-suc-le-zero h)
front_set f zero (x ∷ xs) h = refl
front_set f (suc i) (x ∷ xs) h = ap (λ (r : List ℕ). f x ∷ r) (front_set f i xs (le_of_suc-le-suc h))

-- a turn of the loop that maps in place
pub front_step : (f : ℕ → ℕ) (i : ℕ) (s s₀ : List ℕ) (v : ℕ) → i < length s → s ≡ front f i s₀ → v ≡ f (get_or s i 0) → set s i v ≡ front f (i + 1) s₀
front_step f i s s₀ v h es ev =
    rw (add-one, ev, es, front_get) (front_set f i s₀ (subst (λ (n : ℕ). i < n) (ap length es ∙ front_length f i s₀) h))

-- at the end every element has been mapped
pub front_all : (f : ℕ → ℕ) (i : ℕ) (l : List ℕ) → length l ≤ i → front f i l ≡ map f l
front_all f zero [] h = refl
front_all f zero (x ∷ xs) h = absurd (not-suc-le-zero h)
front_all f (suc i) [] h = refl
front_all f (suc i) (x ∷ xs) h = ap (λ (r : List ℕ). f x ∷ r) (front_all f i xs (le_of_suc-le-suc h))

-- copy: the first i elements of s stand in front of d
abbrev pub copied : List ℕ → ℕ → List ℕ → List ℕ
copied s i d = take i s ++ drop i d

copied_set : (s : List ℕ) (i : ℕ) (d : List ℕ) → i < length s → i < length d → set (copied s i d) i (get_or s i 0) ≡ copied s (suc i) d
copied_set [] i d h l = absurd (not-suc-le-zero h)
copied_set (x ∷ xs) i [] h l = absurd (not-suc-le-zero l)
copied_set (x ∷ xs) zero (y ∷ ys) h l = refl
copied_set (x ∷ xs) (suc i) (y ∷ ys) h l = ap (λ (r : List ℕ). x ∷ r) (copied_set xs i ys (le_of_suc-le-suc h) (le_of_suc-le-suc l))

-- a turn of the loop that copies
pub copied_step : (i : ℕ) (s d d₀ : List ℕ) → i < length s → length s ≤ length d₀ → d ≡ copied s i d₀ → set d i (get_or s i 0) ≡ copied s (i + 1) d₀
copied_step i s d d₀ h l e = rw (add-one, e) (copied_set s i d₀ h (le_trans h l))

-- at the end the whole of s stands in front of what stood past it
pub copied_all : (i : ℕ) (s d : List ℕ) → i ≡ length s → copied s i d ≡ s ++ drop (length s) d
copied_all i s d e = rw (e, take-length)
