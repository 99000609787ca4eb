use Rattle.std.proofs.Common.{ℕ, List, sym, subst}
use Rattle.x64_syntax.specs.declared.placed.Placed.{Placed}
use Rattle.code_at.specs.Code.{program_of}
use Rattle.frame_marks.specs.Marks.{ArePrivate}
use Rattle.frame_marks.specs.Lists.{AreOrdered, AreKept, HasFrames}
use Rattle.frame_marks.proofs.Whole.{ordered, are_private}
use Rattle.frame_marks.proofs.marking.marks.Goals as goal

pub over-bodies-requires : goal.over-bodies-requires
over-bodies-requires c =
    subst AreOrdered (sym c.as_slice-placed.ensures) (ordered c.args.elf.now c.args.code.now c.requires.program c.requires.code)

pub kept_slots-requires-clause-ordered : goal.kept_slots-requires-clause-ordered
kept_slots-requires-clause-ordered c =
    subst AreOrdered (sym c.as_slice-placed.ensures) (ordered c.args.elf.now c.args.code.now c.requires.program c.requires.code)

pub returns : goal.returns
returns c =
    let code = c.args.code.now in
    let frames = c.in_ok-frames.frames in
    let slots = c.in_ok-slots.slots.items in
    let has = subst (λ (ps : List Placed). HasFrames ps frames) c.as_slice-placed.ensures c.in_ok-frames.ensures in
    let functions = c.as_slice-functions.result.now in
    let placed = subst (λ (ps : List Placed). AreKept ps functions frames slots) c.as_slice-placed.ensures c.in_ok-slots.ensures in
    let kept = subst (λ (fs : List ℕ). AreKept code.placed fs frames slots) c.as_slice-functions.ensures placed in
    subst (ArePrivate (program_of c.args.elf.now)) (sym c.of.ensures)
    (are_private (program_of c.args.elf.now) code c.requires.code frames has slots kept)
