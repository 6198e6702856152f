-- What each refusal of links says, row by row of the table in docs/RULES.md 'Replies': a constructor for each ending carries its own fact and that nothing
-- earlier in the order of its own checks holds. proofs/LinkEndings.antt: the fault is one of these, and each of these is the fault.
use Rattle.std.specs.Prelude.{◌≡◌, List, ℕ, ◌≤◌, ◌<◌, length, slice_index, slice_index_or}
use Rattle.plan.specs.declared.replies.Reply.{Reply}
use Rattle.plan.specs.declared.words.Need.{Need}
use Rattle.plan.specs.Refusal.{fine, refusal}
use Rattle.plan.specs.Layout.{steps_of}
use Rattle.plan.specs.Links.{need_for, need_list, need_count}

-- the refusal of link k
abbrev pub link_refused : List Need → List ℕ → ℕ → Reply
link_refused needs links k = refusal 5 (slice_index_or needs k (need_for 0 0)).consumer (slice_index_or needs k (need_for 0 0)).fact (slice_index links k)

-- how the check of links ends
pub data LinksEnding (words links : List ℕ) : Reply → Type 0 where
  -- another number of links than of needs
  miscounted : (length links ≡ need_count words → ⊥) → LinksEnding words links (refusal 3 0 0 0)
  -- link k has the first producer above n
  outside : length links ≡ need_count words → (k : ℕ) → k < length links → steps_of words < slice_index links k
      → ((j : ℕ) → j < k → slice_index links j ≤ steps_of words) → LinksEnding words links (link_refused (need_list words) links k)
  -- each producer is at most n
  fine_links : length links ≡ need_count words → ((k : ℕ) → k < length links → slice_index links k ≤ steps_of words) → LinksEnding words links fine
