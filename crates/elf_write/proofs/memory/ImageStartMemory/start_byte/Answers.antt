use Rattle.std.proofs.Common.{◌≡◌, ◌≤◌, ◌<◌, ◌+◌, ℕ, refl, sym, ◌∙◌, ap, subst, map}
use Rattle.std.specs.Prelude.{Some, None}
use Rattle.std.specs.Option.{option_map}
use Rattle.ev_graph.specs.Memory.{Cell, cells_of, cell_in}
use Rattle.elf_write.specs.Image.{image_part, code_part}
use Rattle.elf_write.proofs.Cells.{seen_segment, seen_behind, cell_covered, cell_uncovered}
use Rattle.elf_write.proofs.memory.ImageStartMemory.start_byte.Goals as goal

pub returns-in-Some : goal.returns-in-Some
returns-in-Some c =
    let segment = c.in-Some.segment.now in
    let segments = c.args.self.now.segments in
    ap Some c.byte_at.ensures
    ∙ sym (ap (option_map (λ (cell : Cell). cell.byte))
    (seen_segment c.args.self.now segment c.args.address
    (subst (λ (n : ℕ). cells_of (map image_part segments) n ≡ cell_in (image_part segment) n) c.from.ensures c.in-Some.ensures.some)
    (subst (λ (n : ℕ). segment.address ≤ n) c.from.ensures c.in-Some.ensures.covered.0)
    (subst (λ (n : ℕ). n < segment.address + segment.size) c.from.ensures c.in-Some.ensures.covered.1)))

pub returns-then-covers_code : goal.returns-then-covers_code
returns-then-covers_code c =
    let segments = c.args.self.now.segments in
    let covered = c.if-covers_code.ensures.0 refl in
    ap Some c.code_byte.ensures
    ∙ sym (ap (option_map (λ (cell : Cell). cell.byte))
    (seen_behind c.args.self.now c.args.address
    (subst (λ (n : ℕ). cells_of (map image_part segments) n ≡ None) c.from.ensures c.in_default.ensures.none)
    ∙ cell_covered (code_part c.args.self.now.code_address c.args.self.now.words) c.args.address covered.0 covered.1))

pub returns : goal.returns
returns c =
    let segments = c.args.self.now.segments in
    sym (ap (option_map (λ (cell : Cell). cell.byte))
    (seen_behind c.args.self.now c.args.address
    (subst (λ (n : ℕ). cells_of (map image_part segments) n ≡ None) c.from.ensures c.in_default.ensures.none)
    ∙ cell_uncovered (code_part c.args.self.now.code_address c.args.self.now.words) c.args.address (λ covered. let wrong = c.if-covers_code.ensures.1 covered in cc)))
