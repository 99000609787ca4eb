use Rattle.std.proofs.Common.{length}
use Rattle.elf_write.specs.ImageFile.{section_names, image_sections}
use Rattle.elf_write.proofs.Steps.{tables_built}
use Rattle.elf_write.proofs.tables.push_tables.Goals as goal

pub returns : goal.returns
returns c =
    let sections = image_sections c.args.places (length c.as_slice-symbols.result.now) (length c.as_slice-strings.result.now) in
    let built = tables_built c.args.out.now.items c.as_slice-symbols.result.now c.as_slice-strings.result.now section_names sections
    _ _ _ _ _ _ c.args.places.symbols c.args.places.sections c.in_ok-pad_to.ensures c.in_ok-extend_from_slice.ensures.items
    c.in_ok-extend_from_slice-2.ensures.items c.in_ok-extend_from_slice-3.ensures.items c.in_ok-pad_to-2.ensures c.in_ok-push_sections.ensures in
    rw (c.as_slice-symbols.ensures, c.as_slice-strings.ensures) at built
