use Rattle.std.proofs.Common.{◌≡◌, ◌+◌, ◌<◌, ◌^◌, ◌⊎◌, ◌-◌, min, drop, length, Some, None, sym, ap, ◌∙◌, subst, arith, inl, inr, refl}
use Rattle.std.specs.Prelude.{slice_get, IfNone, IfSome, MatchOption}
use Rattle.ev_graph.specs.Memory.{allows}
use Rattle.a64_table.specs.Answers.{row_answer}
use Rattle.a64_table.specs.declared.rows.ARow.TheVariants as rows
use Rattle.a64_table.specs.declared.rows.ANext.TheVariants as nexts
use Rattle.arm_replay.specs.Memories.{low_cells}
use Rattle.arm_replay.specs.Walking.{one, count_in, read_value, input_value, IsMisfit, IsFitting}
use Rattle.arm_replay.proofs.StepLemmas as steps
use Rattle.arm_replay.proofs.walk.Walk.step.Goals as goal

pub returns-then-self-eq-MOST_STEPS-clause-steps : goal.returns-then-self-eq-MOST_STEPS-clause-steps
returns-then-self-eq-MOST_STEPS-clause-steps c = λ start goes_on stands.
    steps.too_many c.args.thread.now.memory.image.now c.args.thread.now.memory.stacks.now start c.args.thread.now.number c.args.given.now c.args.self.now
    c.in-Some.instr c.fault.result (sym c.in-Some.is ∙ c.instr.ensures) c.if-self-eq-MOST_STEPS.true goes_on c.fault.ensures stands

pub row-requires : goal.row-requires
row-requires c = steps.encodable _ c.in-Some.instr (sym (sym c.in-Some.is ∙ c.instr.ensures))

pub returns-in-Some-misfit-clause-steps : goal.returns-in-Some-misfit-clause-steps
returns-in-Some-misfit-clause-steps c = λ start goes_on stands.
    let image = c.args.thread.now.memory.image.now in
    let stacks = c.args.thread.now.memory.stacks.now in
    let k = c.args.thread.now.number in
    let given = c.args.given.now in
    let walk = c.args.self.now in
    let line = slice_get given.values walk.taken in
    let w = c.in-Some.instr in
    let may = allows (low_cells image stacks) in
    let there = sym c.in-Some.is ∙ c.instr.ensures in
    let range = steps.encodable _ w (sym there) in
    let small : IfSome (input_value line) (λ v. v < 2 ^ 64) = subst (λ i. IfSome i (λ v. v < 2 ^ 64)) c.given_input-input.ensures.value c.given_input-input.ensures.fits in
    let row_is : c.row.result ≡ row_answer w walk.state may (read_value line) (input_value line) =
    c.row.ensures ∙ ap (λ r. row_answer w walk.state may r c.given_input-input.result) c.given_read-read.ensures
    ∙ ap (λ i. row_answer w walk.state may (read_value line) i) c.given_input-input.ensures.value in
    let begun = steps.begun image stacks start k given walk w c.row.result there range small row_is stands in
    let kind = c.in-Some-misfit.kind in
    let made = c.in-Done-default-default-State.made in
    let misfit : IsMisfit walk.made.count given.count line made kind =
    subst (λ r. MatchOption r (IsFitting walk.made.count given.count line made) (IsMisfit walk.made.count given.count line made)) c.in-Some-misfit.is c.misfit.ensures.fits in
    steps.misfits image stacks start k given walk c.row.result made c.in-Done-default-default-State.fence c.in-Done-default-default-State.next kind c.told_at-item.result
    c.fault-in-Some-misfit.result begun (c.in-Done-default-default-State.is ∙ ap (λ n. rows.Done made c.in-Done-default-default-State.fence n) c.in-Done-default-default-State.field-2-is)
    (omega arith) goes_on misfit c.told_at-item.ensures c.fault-in-Some-misfit.ensures

pub row-requires-in-Done-default-default-State-clause-room : goal.row-requires-in-Done-default-default-State-clause-room
row-requires-in-Done-default-default-State-clause-room c =
    subst (λ r. IfNone r (c.args.self.now.made.count + count_in c.in-Done-default-default-State.made < 2 ^ 32)) c.in_default-misfit.is c.misfit.ensures.room

pub returns-in-WantsRead : goal.returns-in-WantsRead
returns-in-WantsRead c = record {
  steps = λ start goes_on stands.
      let image = c.args.thread.now.memory.image.now in
      let stacks = c.args.thread.now.memory.stacks.now in
      let k = c.args.thread.now.number in
      let given = c.args.given.now in
      let walk = c.args.self.now in
      let line = slice_get given.values walk.taken in
      let w = c.in-Some.instr in
      let may = allows (low_cells image stacks) in
      let there = sym c.in-Some.is ∙ c.instr.ensures in
      let range = steps.encodable _ w (sym there) in
      let small : IfSome (input_value line) (λ v. v < 2 ^ 64) = subst (λ i. IfSome i (λ v. v < 2 ^ 64)) c.given_input-input.ensures.value c.given_input-input.ensures.fits in
      let row_is : c.row.result ≡ row_answer w walk.state may (read_value line) (input_value line) =
      c.row.ensures ∙ ap (λ r. row_answer w walk.state may r c.given_input-input.result) c.given_read-read.ensures
      ∙ ap (λ i. row_answer w walk.state may (read_value line) i) c.given_input-input.ensures.value in
      let begun = steps.begun image stacks start k given walk w c.row.result there range small row_is stands in
      let lacks = steps.lead_at image stacks start k given walk c.row.result _ begun c.in-WantsRead.is in
      let missing = c.missing.ensures in
      steps.lacks image stacks start k given walk c.row.result c.missing.result missing.0 begun lacks (omega arith) goes_on missing.1 missing.2;
  within = tt;
  begun = tt;
}

pub returns-in-WantsInput : goal.returns-in-WantsInput
returns-in-WantsInput c = record {
  steps = λ start goes_on stands.
      let image = c.args.thread.now.memory.image.now in
      let stacks = c.args.thread.now.memory.stacks.now in
      let k = c.args.thread.now.number in
      let given = c.args.given.now in
      let walk = c.args.self.now in
      let line = slice_get given.values walk.taken in
      let w = c.in-Some.instr in
      let may = allows (low_cells image stacks) in
      let there = sym c.in-Some.is ∙ c.instr.ensures in
      let range = steps.encodable _ w (sym there) in
      let small : IfSome (input_value line) (λ v. v < 2 ^ 64) = subst (λ i. IfSome i (λ v. v < 2 ^ 64)) c.given_input-input.ensures.value c.given_input-input.ensures.fits in
      let row_is : c.row.result ≡ row_answer w walk.state may (read_value line) (input_value line) =
      c.row.ensures ∙ ap (λ r. row_answer w walk.state may r c.given_input-input.result) c.given_read-read.ensures
      ∙ ap (λ i. row_answer w walk.state may (read_value line) i) c.given_input-input.ensures.value in
      let begun = steps.begun image stacks start k given walk w c.row.result there range small row_is stands in
      let lacks = steps.lead_at image stacks start k given walk c.row.result _ begun c.in-WantsInput.is in
      let missing = c.missing-in-WantsInput.ensures in
      steps.lacks image stacks start k given walk c.row.result c.missing-in-WantsInput.result missing.0 begun lacks (omega arith) goes_on missing.1 missing.2;
  within = tt;
  begun = tt;
}

pub returns-in-Done-default-default-End-clause-steps : goal.returns-in-Done-default-default-End-clause-steps
returns-in-Done-default-default-End-clause-steps c = λ start goes_on stands.
    let image = c.args.thread.now.memory.image.now in
    let stacks = c.args.thread.now.memory.stacks.now in
    let k = c.args.thread.now.number in
    let given = c.args.given.now in
    let walk = c.args.self.now in
    let line = slice_get given.values walk.taken in
    let w = c.in-Some.instr in
    let may = allows (low_cells image stacks) in
    let there = sym c.in-Some.is ∙ c.instr.ensures in
    let range = steps.encodable _ w (sym there) in
    let small : IfSome (input_value line) (λ v. v < 2 ^ 64) = subst (λ i. IfSome i (λ v. v < 2 ^ 64)) c.given_input-input.ensures.value c.given_input-input.ensures.fits in
    let row_is : c.row.result ≡ row_answer w walk.state may (read_value line) (input_value line) =
    c.row.ensures ∙ ap (λ r. row_answer w walk.state may r c.given_input-input.result) c.given_read-read.ensures
    ∙ ap (λ i. row_answer w walk.state may (read_value line) i) c.given_input-input.ensures.value in
    let begun = steps.begun image stacks start k given walk w c.row.result there range small row_is stands in (
      steps.ends image stacks start k given walk c.row.result c.in-Done-default-default-End.field-0 c.in-Done-default-default-End.field-1 c.in-Done-default-default-End.end _ begun
          (c.in-Done-default-default-End.is ∙ ap (λ n. rows.Done c.in-Done-default-default-End.field-0 c.in-Done-default-default-End.field-1 n) c.in-Done-default-default-End.field-2-is) refl,
      goes_on,
    )

pub returns-in_ok-row-in-Done-default-default-State-clause-steps : goal.returns-in_ok-row-in-Done-default-default-State-clause-steps
returns-in_ok-row-in-Done-default-default-State-clause-steps c = λ start goes_on stands.
    let image = c.args.thread.now.memory.image.now in
    let stacks = c.args.thread.now.memory.stacks.now in
    let k = c.args.thread.now.number in
    let given = c.args.given.now in
    let walk = c.args.self.now in
    let line = slice_get given.values walk.taken in
    let w = c.in-Some.instr in
    let may = allows (low_cells image stacks) in
    let there = sym c.in-Some.is ∙ c.instr.ensures in
    let range = steps.encodable _ w (sym there) in
    let small : IfSome (input_value line) (λ v. v < 2 ^ 64) = subst (λ i. IfSome i (λ v. v < 2 ^ 64)) c.given_input-input.ensures.value c.given_input-input.ensures.fits in
    let row_is : c.row.result ≡ row_answer w walk.state may (read_value line) (input_value line) =
    c.row.ensures ∙ ap (λ r. row_answer w walk.state may r c.given_input-input.result) c.given_read-read.ensures
    ∙ ap (λ i. row_answer w walk.state may (read_value line) i) c.given_input-input.ensures.value in
    let begun = steps.begun image stacks start k given walk w c.row.result there range small row_is stands in
    let made = c.in-Done-default-default-State.made in
    let fitting : IsFitting walk.made.count given.count line made =
    subst (λ r. MatchOption r (IsFitting walk.made.count given.count line made) (IsMisfit walk.made.count given.count line made)) c.in_default-misfit.is c.misfit.ensures.fits in
    steps.goes_on image stacks start k given walk c.row.result made c.in-Done-default-default-State.fence c.in-Done-default-default-State.next
    c.row-in-Done-default-default-State.new.self c.min.result _ begun
    (c.in-Done-default-default-State.is ∙ ap (λ n. rows.Done made c.in-Done-default-default-State.fence n) c.in-Done-default-default-State.field-2-is)
    goes_on fitting c.in_ok-row-in-Done-default-default-State.ensures.keeps c.in_ok-row-in-Done-default-default-State.ensures.count.0
    (c.min.ensures ∙ ap (λ n. min n (length c.as_slice.result.now - walk.taken)) c.takes.ensures ∙ ap (λ l. min (one made.read + one made.input) (length l - walk.taken)) c.as_slice.ensures) refl
