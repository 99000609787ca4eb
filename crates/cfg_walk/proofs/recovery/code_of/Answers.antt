use Rattle.std.proofs.Common.{ℕ, List, sym, subst}
use Rattle.x64_syntax.specs.declared.placed.Placed.{Placed}
use Rattle.code_at.specs.Code.{program_of}
use Rattle.cfg_walk.specs.declared.code.Block.{Block}
use Rattle.cfg_walk.specs.Blocks.{IsLeader, IsSite}
use Rattle.cfg_walk.specs.Code.{AreBlocks, AreJust}
use Rattle.cfg_walk.specs.Known.{IsKnown}
use Rattle.cfg_walk.proofs.recovery.code_of.Goals as goal

pub returns-clause-blocks : goal.returns-clause-blocks
returns-clause-blocks c =
    let program = program_of c.args.elf.now in
    let known = subst (λ (ps : List Placed). IsKnown program ps) (sym c.deref-3.ensures.value) c.requires.known in
    let led = subst (λ (xs : List ℕ). AreJust (IsLeader program) xs) (sym c.deref-2.ensures.value) c.in_ok-leaders.ensures in
    subst (λ (bs : List Block). AreBlocks program bs) (sym c.of-2.ensures) (c.in_ok-blocks.ensures program known led)

pub returns-clause-sites : goal.returns-clause-sites
returns-clause-sites c =
    let program = program_of c.args.elf.now in
    let known = subst (λ (ps : List Placed). IsKnown program ps) (sym c.deref-4.ensures.value) c.requires.known in
    subst (λ (xs : List ℕ). AreJust (IsSite program) xs) (sym c.of-3.ensures) (c.in_ok-sites.ensures program known)
