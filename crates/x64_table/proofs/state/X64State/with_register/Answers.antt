use Rattle.std.proofs.Common.{ap, ◌∙◌, rules, ◌<◌, length}
use Rattle.std.specs.Prelude.{slice_index}
use Rattle.behavior.specs.Acts.{Bank, put}
use Rattle.x64_table.specs.State.{Thread, set, merged}
use Rattle.x64_table.specs.View.{thread_of}
use Rattle.x64_table.proofs.StateLemmas.{registers_with}
use Rattle.x64_table.proofs.state.X64State.with_register.Goals as goal

pub returns : goal.returns
unfolding set thread_of
returns c =
    let thread : Bank → Thread = λ regs. record { regs = regs; flags = c.args.self.now.flags; at = c.args.self.now.at } in
    let inside : c.from-number.result < length c.args.self.now.regs = search rules in
    ap thread (registers_with c.args.self.now.regs c.from-number.result c.merge.result inside)
    ∙ ap (λ v. thread (put c.from-number.result v (slice_index c.args.self.now.regs))) c.merge.ensures
    ∙ ap (λ n. thread (put n (merged c.args.w c.args.r.high (slice_index c.args.self.now.regs n) c.args.value) (slice_index c.args.self.now.regs))) c.from-number.ensures
