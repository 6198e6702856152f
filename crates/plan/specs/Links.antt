-- The links: one producer byte a need, consumers rising from 1 to n + 1, facts rising within one. Source: docs/RULES.md 'Words, rows and links'.
-- What is refused of them, and the stretch of one consumer. Stands on Refusal, Layout and Words.
use Rattle.std.specs.Prelude.{Bool, ◌&&◌, List, [], ◌∷◌, ◌++◌, map, ℕ, zero, suc, length, take, drop, ◌==◌, nat_le, if◌then◌else◌}
use Rattle.sets.specs.Test.{up_to, sum_to}
use Rattle.sets.specs.Word.{count, members}
use Rattle.plan.specs.declared.replies.Reply.{Reply}
use Rattle.plan.specs.declared.words.Need.{Need}
use Rattle.plan.specs.Refusal.{fine, refusal, first_of, length_fault}
use Rattle.plan.specs.Layout.{steps_of, needs_of}
use Rattle.plan.specs.Words.{plan_fault}

-- the need of a consumer for a fact
abbrev pub need_for : ℕ → ℕ → Need
need_for consumer fact = record { consumer = consumer; fact = fact }

-- the needs of k consumers, from consumer c on: consumers rising, facts rising within one
unfoldable pub needs_from : List ℕ → ℕ → ℕ → List Need
unfolding members needs_of
needs_from words c zero = []
needs_from words c (suc k) = map (need_for c) (members (needs_of words c)) ++ needs_from words (suc c) k

-- the needs of a plan, in the order in which its links stand: link k is the producer of need k
unfoldable pub need_list : List ℕ → List Need
unfolding needs_from steps_of
need_list words = needs_from words 1 (suc (steps_of words))

-- how many needs the steps below step i have, counted as ones over the need sets
unfoldable pub needs_below : List ℕ → ℕ → ℕ
unfolding sum_to count needs_of
needs_below words i = sum_to (λ c. count (needs_of words c)) i

-- the number of needs, and so of links: the ones over the need sets and the goal
unfoldable pub need_count : List ℕ → ℕ
unfolding needs_below steps_of
need_count words = needs_below words (suc (suc (steps_of words)))

-- 5 where a producer is above n: consumer, fact, producer
unfoldable pub link_fault : ℕ → Need → ℕ → Reply
link_fault n need producer = if nat_le producer n then fine else refusal 5 need.consumer need.fact producer

-- the first refusal of links that stand for these needs
unfoldable pub producers_fault : ℕ → List Need → List ℕ → Reply
unfolding link_fault first_of
producers_fault n [] links = fine
producers_fault n (need ∷ needs) [] = fine
producers_fault n (need ∷ needs) (producer ∷ links) = let rest = producers_fault n needs links in first_of (link_fault n need producer ∷ []) rest

-- the first refusal of the links of a plan: 3 for their number, then 5
unfoldable pub links_fault : List ℕ → List ℕ → Reply
unfolding need_count length_fault producers_fault need_list steps_of first_of
links_fault words links = first_of (length_fault (need_count words) (length links) ∷ []) (producers_fault (steps_of words) (need_list words) links)

-- whether there is a stretch for a consumer: the plan is well formed, there is a link for each need, and the consumer is one of 1 to n + 1
unfoldable pub has_stretch : List ℕ → List ℕ → ℕ → Bool
unfolding plan_fault need_count up_to steps_of
has_stretch words links consumer =
    (plan_fault words).code == 0 && (length links == need_count words && up_to (suc (steps_of words)) consumer)

-- the links of one consumer: after those of the lower steps, as many as its needs; else none
unfoldable pub stretch_of : List ℕ → List ℕ → ℕ → List ℕ
unfolding has_stretch count needs_of needs_below
stretch_of words links consumer =
    if has_stretch words links consumer then take (count (needs_of words consumer)) (drop (needs_below words consumer) links) else []
