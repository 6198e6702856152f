-- What is refused of links: the first producer above n is found by a search, and each of the three endings of `links_fault` says what holds of the links.
-- Assumes nothing.
use Rattle.std.proofs.Common.{◌≡◌, refl, sym, ap, ◌∙◌, Bool, cond, List, [], ◌∷◌, ℕ, suc, ◌≤◌, ◌<◌, arith, length, get_or, ltb, eq-eqb, ne_eqb, lt-ltb, le-ltb, le-leb, ltb-true, ltb-false, Some, None, true, false, not, ◌+◌}
use native.Mathlib.Nat.{suc_inj}
use native.Mathlib.Decide.{ℕ_discrete, dec_lt}
use lib.Dec.{leb-suc-suc}
use borrow.Author.Tests.{lt-leb}
use Rattle.sets.specs.Test.{least, first_passing}
use Rattle.sets.proofs.Least.{least_found, least_none, least_at, least_below, passing_is, none_passing}
use Rattle.plan.specs.declared.replies.Reply.{Reply}
use Rattle.plan.specs.declared.words.Need.{Need}
use Rattle.plan.specs.Refusal.{fine, refusal, length_fault}
use Rattle.plan.specs.Layout.{steps_of}
use Rattle.plan.specs.Links.{need_for, need_list, need_count, producers_fault, links_fault}
use Rattle.plan.specs.LinkEndings.{link_refused, LinksEnding, miscounted, outside, fine_links}
use Rattle.plan.proofs.Needs.{needs_length}
use Rattle.std.specs.Prelude.{position}
use Rattle.std.specs.List.{position_or_len}
use Rattle.plan.proofs.Refusals.{length_passed}

-- the first link with a producer above n, or the number of links
abbrev pub first_above : ℕ → List ℕ → ℕ
first_above n links = least (λ k. ltb n (get_or links k 0)) (length links)

-- the first refusal of producers is a search for the first above n
pub producers_search : (n : ℕ) (needs : List Need) (links : List ℕ) → length needs ≡ length links
    → producers_fault n needs links ≡ cond (ltb (first_above n links) (length links)) (link_refused needs links (first_above n links)) fine
unfolding producers_fault least
producers_search n [] [] e = refl
producers_search n [] (producer ∷ links) e = absurd (omega arith)
producers_search n (need ∷ needs) [] e = absurd (omega arith)
producers_search n (need ∷ needs) (producer ∷ links) e = go (dec_lt n producer) (producers_search n needs links (suc_inj e))
  where
    go : Dec (n < producer) → producers_fault n needs links ≡ cond (ltb (first_above n links) (length links)) (link_refused needs links (first_above n links)) fine
        → producers_fault n (need ∷ needs) (producer ∷ links)
        ≡ cond (ltb (first_above n (producer ∷ links)) (length (producer ∷ links))) (link_refused (need ∷ needs) (producer ∷ links) (first_above n (producer ∷ links))) fine
    go (yes h) r = rw (lt-leb producer n h, lt-ltb n producer h, lt-ltb 0 (suc (length links)) (omega arith)) refl
    go (no h) r = rw (le-leb producer n (omega arith), le-ltb n producer (omega arith), leb-suc-suc (suc (first_above n links)) (length links)) r

module _ (words links : List ℕ) where
  -- another number of links than of needs is refused
  links_miscounted : (length links ≡ need_count words → ⊥) → links_fault words links ≡ refusal 3 0 0 0
  unfolding links_fault
  links_miscounted ne = rw (ne_eqb (length links) (need_count words) ne) refl

  -- with the right number it is as the search for a producer above n says
  links_counted : length links ≡ need_count words
      → links_fault words links ≡ cond (ltb (first_above (steps_of words) links) (length links)) (link_refused (need_list words) links (first_above (steps_of words) links)) fine
  unfolding links_fault
  links_counted e = rw (eq-eqb (length links) (need_count words) e) (producers_search (steps_of words) (need_list words) links (needs_length words ∙ sym e))

  -- where there is a first producer above n, it is refused
  links_outside : length links ≡ need_count words → first_above (steps_of words) links < length links
      → links_fault words links ≡ link_refused (need_list words) links (first_above (steps_of words) links)
  links_outside e h = rw (links_counted e, lt-ltb (first_above (steps_of words) links) (length links) h) refl

  -- where there is none, nothing is
  links_inside : length links ≡ need_count words → length links ≤ first_above (steps_of words) links → links_fault words links ≡ fine
  links_inside e h = rw (links_counted e, le-ltb (first_above (steps_of words) links) (length links) h) refl

  -- the refusal of links has one of the endings
  pub links_ending : LinksEnding words links (links_fault words links)
  links_ending = go (ℕ_discrete (length links) (need_count words)) (dec_lt (first_above (steps_of words) links) (length links))
    where
      above : ℕ → Bool
      above k = ltb (steps_of words) (get_or links k 0)

      go : Dec (length links ≡ need_count words) → Dec (first_above (steps_of words) links < length links) → LinksEnding words links (links_fault words links)
      go (no ne) d = rw (links_miscounted ne) (miscounted ne)
      go (yes e) (yes h) =
          let k = first_above (steps_of words) links in
          rw (links_outside e h)
          (outside e k h (ltb-true (steps_of words) (get_or links k 0) (least_at above (length links) h)) (λ j l. ltb-false (steps_of words) (get_or links j 0) (least_below above (length links) j l)))
      go (yes e) (no h) =
          rw (links_inside e (omega arith))
          (fine_links e (λ k l. ltb-false (steps_of words) (get_or links k 0) (least_below above (length links) k (omega arith))))

  -- and no other reply has
  pub ending_links : {r : Reply} → LinksEnding words links r → r ≡ links_fault words links
  ending_links (miscounted ne) = sym (links_miscounted ne)
  ending_links (outside e k h a b) =
      let q : first_above (steps_of words) links ≡ k
      = least_found (λ k. ltb (steps_of words) (get_or links k 0)) (length links) k h (λ j l. le-ltb (steps_of words) (get_or links j 0) (b j l)) (lt-ltb (steps_of words) (get_or links k 0) a) in
      sym (links_outside e (rw q h) ∙ ap (link_refused (need_list words) links) q)
  ending_links (fine_links e f) =
      let q : first_above (steps_of words) links ≡ length links
      = least_none (λ k. ltb (steps_of words) (get_or links k 0)) (length links) (λ k l. le-ltb (steps_of words) (get_or links k 0) (f k l)) in
      sym (links_inside e (omega arith))

  -- the return for a wrong number of links: m is the number of needs
  pub return_miscounted : (m : ℕ) (r : Reply) → m ≡ need_count words → (length links ≡ m → ⊥) → r ≡ refusal 3 0 0 0 → r ≡ links_fault words links
  return_miscounted m r e ne q = q ∙ sym (links_miscounted (λ z. ne (z ∙ sym e)))

  -- the return for a producer above n: n is the number of steps, k what the search found
  pub return_outside : (m n k : ℕ) (need : Need) (r : Reply) → m ≡ need_count words → length links ≡ m → n ≡ steps_of words → k ≡ first_above n links
      → k < length links → need ≡ get_or (need_list words) k (need_for 0 0) → r ≡ refusal 5 need.consumer need.fact (get_or links k 0) → r ≡ links_fault words links
  return_outside m n k need r e l s f h d q =
      let g : k ≡ first_above (steps_of words) links = f ∙ ap (λ (n : ℕ). first_above n links) s in
      q ∙ ap (λ (d : Need). refusal 5 d.consumer d.fact (get_or links k 0)) d ∙ ap (link_refused (need_list words) links) g ∙ sym (links_outside (l ∙ e) (omega arith))

  -- the return for links with nothing to refuse
  pub return_fine : (m n k : ℕ) (r : Reply) → m ≡ need_count words → length links ≡ m → n ≡ steps_of words → k ≡ first_above n links
      → length links ≤ k → r ≡ fine → r ≡ links_fault words links
  return_fine m n k r e l s f h q =
      let g : k ≡ first_above (steps_of words) links = f ∙ ap (λ (n : ℕ). first_above n links) s in
      q ∙ sym (links_inside (l ∙ e) (omega arith))

-- the first producer above n is what a search through the links finds
position_above : (n : ℕ) (links : List ℕ) → position (λ producer. ltb n producer) links ≡ first_passing (λ k. ltb n (get_or links k 0)) (length links)
unfolding least first_passing
position_above n links = ap (λ (k : ℕ). cond (ltb k (length links)) (Some k) None) (go links)
  where
    turn : (b : Bool) (i k : ℕ) → i ≡ k → cond (not b) (1 + i) 0 ≡ cond b 0 (suc k)
    turn true i k e = refl
    turn false i k e = omega arith

    go : (links : List ℕ) → position_or_len (λ producer. ltb n producer) links ≡ first_above n links
    go [] = refl
    go (producer ∷ links) = turn (ltb n producer) _ _ (go links)

-- the two returns of a search that finds a link or none: n is the number of steps, m that of needs
module _ (words links : List ℕ) (n m : ℕ) (s : n ≡ steps_of words) (c : m ≡ need_count words) (e : fine ≡ length_fault m (length links)) where
  pub above_told : (k producer : ℕ) (need : Need) → Some k ≡ position (λ producer. ltb n producer) links → need ≡ get_or (need_list words) k (need_for 0 0)
      → producer ≡ get_or links k 0 → refusal 5 need.consumer need.fact producer ≡ links_fault words links
  above_told k producer need f d p =
      let found = passing_is (λ k. ltb n (get_or links k 0)) (length links) k (sym (position_above n links) ∙ sym f) in
      rw p (return_outside words links m n k need _ c (length_passed m (length links) e) s (sym found.1) found.0 d refl)

  pub none_above : None ≡ position (λ producer. ltb n producer) links → fine ≡ links_fault words links
  none_above f =
      let none = none_passing (λ k. ltb n (get_or links k 0)) (length links) (sym (position_above n links) ∙ sym f) in
      return_fine words links m n (length links) fine c (length_passed m (length links) e) s (sym none) (omega arith) refl
