use Rattle.std.proofs.Common.{◌≡◌, ◌++◌, List, ℕ, ◌∙◌, ap, subst}
use Rattle.std.specs.List.{flat_map}
use Rattle.std.proofs.lemmas.Result.{IfOk-weaker}
use Rattle.ev_graph.specs.Places.{StandsIn}
use Rattle.code_at.specs.Code.{Program}
use Rattle.cfg_walk.specs.Ends.{returned_by}
use Rattle.cfg_walk.specs.Blocks.{IsSite}
use Rattle.cfg_walk.specs.Code.{AreJust}
use Rattle.cfg_walk.specs.Known.{IsKnown}
use Rattle.cfg_walk.proofs.Sets.{just}
use Rattle.cfg_walk.proofs.Gathered.{site_is}
use Rattle.cfg_walk.proofs.sites.sites.Goals as goal

pub returns : goal.returns
returns c =
    let gathered : c.push_each_site.new.into.items ≡ flat_map returned_by c.args.placed.now =
    c.in_ok-push_each_site.ensures ∙ ap (λ (xs : List ℕ). xs ++ flat_map returned_by c.args.placed.now) c.new-addresses.ensures.items in
    IfOk-weaker c.sorted_set.result (λ v. AreJust (StandsIn c.push_each_site.new.into.items) v.items)
    (λ v. (program : Program) → IsKnown program c.args.placed.now → AreJust (IsSite program) v.items)
    (λ v are program known. just v.items (site_is program c.args.placed.now known)
    (subst (λ (xs : List ℕ). AreJust (StandsIn xs) v.items) gathered are)) c.sorted_set.ensures
