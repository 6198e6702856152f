-- The numbers come rising, so the one with k lower ones comes after k others.
use Rattle.std.proofs.Common.{sym, ap, ◌∙◌, ℕ, Option, unwrap_or}
use Rattle.std.proofs.lemmas.Option.{unwrap_or-slice_get}
use Rattle.std.proofs.lemmas.Iterator.Adapters.{option_map_id}
use Rattle.std.proofs.lemmas.Iterator.Consumers.{nth_from_yields_List, YieldsList-from_first}
use Rattle.sets.specs.Word.{members}
use Rattle.sets.proofs.Set.nth.Goals as goal

pub returns : goal.returns
returns c =
    let w = c.args.self in
    let rising = YieldsList-from_first (λ (x : ℕ). x) members (members w) (ap members c.into_iter.ensures.into_iter_gives) in
    let found = sym (option_map_id c.nth.result) ∙ nth_from_yields_List c.nth.result c.nth.new.self c.args.k c.nth.ensures.ran rising in
    c.unwrap_or.ensures ∙ ap (λ (o : Option ℕ). unwrap_or o 64) found ∙ unwrap_or-slice_get (members w) c.args.k 64
