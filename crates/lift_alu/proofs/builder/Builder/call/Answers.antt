use Rattle.std.proofs.Common.{◌≡◌, ℕ, ◌⊎◌, inl, inr, ap, ◌∙◌}
use Rattle.std.proofs.lemmas.Result.{on_ok_weaker}
use Rattle.x64_syntax.specs.declared.placed.Flow.{Flow}
use Rattle.x64_syntax.specs.declared.placed.Flow.TheVariants as flow
use Rattle.lift_alu.specs.Formulas.{done, sets_register}
use Rattle.lift_alu.specs.Lifted.{takes_in, puts_out, writes_return, calls}
use Rattle.lift_alu.specs.SoFar.{so_far}
use Rattle.lift_alu.proofs.builder.Builder.call.Goals as goal

pub returns-in-ListedIn : goal.returns-in-ListedIn
unfolding calls
returns-in-ListedIn c =
    let same = ap (λ f. so_far c.args.self.now (calls c.args.site.at c.args.site.after f)) c.in-ListedIn.is in
    on_ok_weaker c.take_in.result (λ is. same ∙ c.in_ok-below.ensures (λ below. takes_in done) ∙ is done) c.take_in.ensures

pub returns-in-ListedOut : goal.returns-in-ListedOut
unfolding calls
returns-in-ListedOut c =
    let same = ap (λ f. so_far c.args.self.now (calls c.args.site.at c.args.site.after f)) c.in-ListedOut.is in
    on_ok_weaker c.put_out.result (λ is. same ∙ c.in_ok-below.ensures (λ below. puts_out done) ∙ is done) c.put_out.ensures

pub returns-in-Plain : goal.returns-in-Plain
unfolding calls
returns-in-Plain c =
    let at = c.args.site.at in
    let after = c.args.site.after in
    let same = ap (λ l. so_far c.args.self.now l) (plain at after c.args.flow c.in-Plain.is) in
    on_ok_weaker c.begin_stack.result (λ is. same ∙ c.in_ok-below.ensures (λ below. sets_register 4 below done) ∙ is done) c.begin_stack.ensures
  where
    plain : (at after : ℕ) (f : Flow) → (f ≡ flow.Plain) ⊎ (f ≡ flow.TableJump) → calls at after f ≡ writes_return at after (λ below. sets_register 4 below done)
    plain at after f (inl is) = ap (λ g. calls at after g) is
    plain at after f (inr is) = ap (λ g. calls at after g) is
