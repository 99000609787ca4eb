use Rattle.std.proofs.Common.{◌≡◌, ◌++◌, List, ℕ, ◌∙◌, ap, subst}
use Rattle.std.specs.List.{flat_map}
use Rattle.std.proofs.lemmas.Result.{IfOk-weaker}
use Rattle.ev_graph.specs.Places.{StandsIn}
use Rattle.code_at.specs.Code.{program_of}
use Rattle.cfg_walk.specs.Ends.{called_by}
use Rattle.cfg_walk.specs.Blocks.{IsFunction}
use Rattle.cfg_walk.specs.Code.{AreJust}
use Rattle.cfg_walk.proofs.Sets.{just}
use Rattle.cfg_walk.proofs.Gathered.{function_is}
use Rattle.cfg_walk.proofs.functions.functions.Goals as goal

pub returns : goal.returns
returns c =
    let gathered : c.push_each_called.new.into.items ≡ c.args.elf.now.threads ++ flat_map called_by c.args.placed.now =
    c.in_ok-push_each_called.ensures ∙ ap (λ (xs : List ℕ). xs ++ flat_map called_by c.args.placed.now) (c.in_ok-addresses.ensures.items ∙ c.as_slice.ensures) in
    let is = function_is (program_of c.args.elf.now) c.args.placed.now c.requires.known in
    IfOk-weaker c.sorted_set.result (λ v. AreJust (StandsIn c.push_each_called.new.into.items) v.items)
    (λ v. AreJust (IsFunction (program_of c.args.elf.now)) v.items)
    (λ v are. just v.items is (subst (λ (xs : List ℕ). AreJust (StandsIn xs) v.items) gathered are)) c.sorted_set.ensures
