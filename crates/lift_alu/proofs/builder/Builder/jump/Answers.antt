use Rattle.std.proofs.Common.{◌≡◌, ℕ, ◌⊎◌, inl, inr, ap, ◌∙◌}
use Rattle.std.proofs.lemmas.Result.{on_ok_weaker}
use Rattle.x64_syntax.specs.declared.placed.Flow.{Flow}
use Rattle.x64_syntax.specs.declared.placed.Flow.TheVariants as flow
use Rattle.lift_alu.specs.Formulas.{done}
use Rattle.lift_alu.specs.Lifted.{pops, jumps, lifts}
use Rattle.lift_alu.specs.SoFar.{so_far}
use Rattle.lift_alu.proofs.builder.Builder.jump.Goals as goal

pub returns-in_ok-take_in-in-ListedIn : goal.returns-in_ok-take_in-in-ListedIn
unfolding jumps lifts
returns-in_ok-take_in-in-ListedIn c =
    let at = c.args.site.at in
    let after = c.args.site.after in
    let same = ap (λ f. so_far c.args.self.now (jumps at after f)) c.in-ListedIn.is in
    on_ok_weaker c.pop_return.result (λ is. same ∙ c.in_ok-take_in-in-ListedIn.ensures (pops at after (λ v. done)) ∙ is) c.pop_return.ensures

pub returns-in_ok-put_out-in-ListedOut : goal.returns-in_ok-put_out-in-ListedOut
unfolding jumps lifts
returns-in_ok-put_out-in-ListedOut c =
    let at = c.args.site.at in
    let after = c.args.site.after in
    let same = ap (λ f. so_far c.args.self.now (jumps at after f)) c.in-ListedOut.is in
    on_ok_weaker c.pop_return-in-ListedOut.result (λ is. same ∙ c.in_ok-put_out-in-ListedOut.ensures (pops at after (λ v. done)) ∙ is) c.pop_return-in-ListedOut.ensures

pub returns-in-Plain : goal.returns-in-Plain
unfolding jumps
returns-in-Plain c = ap (λ l. so_far c.args.self.now l) (plain c.args.site.at c.args.site.after c.args.flow c.in-Plain.is)
  where
    plain : (at after : ℕ) (f : Flow) → (f ≡ flow.Plain) ⊎ (f ≡ flow.TableJump) → jumps at after f ≡ done
    plain at after f (inl is) = ap (λ g. jumps at after g) is
    plain at after f (inr is) = ap (λ g. jumps at after g) is
