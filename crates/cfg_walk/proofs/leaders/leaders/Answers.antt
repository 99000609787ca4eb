use Rattle.std.proofs.Common.{◌≡◌, ◌++◌, List, ℕ, ◌∙◌, ap, subst}
use Rattle.std.specs.List.{flat_map}
use Rattle.std.proofs.lemmas.Result.{IfOk-weaker}
use Rattle.ev_graph.specs.Places.{StandsIn}
use Rattle.code_at.specs.Code.{program_of}
use Rattle.cfg_walk.specs.Ends.{led_by}
use Rattle.cfg_walk.specs.Blocks.{IsLeader}
use Rattle.cfg_walk.specs.Code.{AreJust}
use Rattle.cfg_walk.proofs.Sets.{just}
use Rattle.cfg_walk.proofs.Gathered.{leader_is}
use Rattle.cfg_walk.proofs.leaders.leaders.Goals as goal

pub returns : goal.returns
returns c =
    let gathered : c.push_each_led.new.into.items ≡ c.args.elf.now.threads ++ flat_map led_by c.args.placed.now =
    c.in_ok-push_each_led.ensures ∙ ap (λ (xs : List ℕ). xs ++ flat_map led_by c.args.placed.now) (c.in_ok-addresses.ensures.items ∙ c.as_slice.ensures) in
    let is = leader_is (program_of c.args.elf.now) c.args.placed.now c.requires.known in
    IfOk-weaker c.sorted_set.result (λ v. AreJust (StandsIn c.push_each_led.new.into.items) v.items)
    (λ v. AreJust (IsLeader (program_of c.args.elf.now)) v.items)
    (λ v are. just v.items is (subst (λ (xs : List ℕ). AreJust (StandsIn xs) v.items) gathered are)) c.sorted_set.ensures
