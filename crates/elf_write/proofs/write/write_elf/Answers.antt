use Rattle.std.proofs.Common.{◌≡◌, ◌+◌, ◌<◌, ◌^◌, ◌∙◌, ap, refl, subst, arith, map, length, List, ℕ, [], ◌∷◌, ◌++◌, length-append}
use Rattle.std.specs.Prelude.{slice_index}
use Rattle.std.specs.List.{AllByRecursion}
use Rattle.std.proofs.lemmas.List.{length-map}
use Rattle.ev_graph.specs.Memory.{Part}
use Rattle.elf_write.specs.declared.image.ImageSegment.{ImageSegment}
use Rattle.elf_write.specs.declared.places.Places.{Places}
use Rattle.elf_write.specs.Image.{image_part, image_parts}
use Rattle.elf_write.specs.ImageFile.{image_file, places_of}
use Rattle.elf_write.proofs.Steps.{file_written, places_written}
use Rattle.elf_write.proofs.Readable.{file_of_image}
use Rattle.elf_write.proofs.write.write_elf.Goals as goal

pub returns : goal.returns
returns c =
    let image = c.args.image.now in
    let ps = map image_part c.as_slice-segments.result.now in
    let q = image_part c.in_ok-code.code in
    let threads = c.as_slice-threads.result.now in
    let count : length c.as_slice-segments.result.now + 1 ≡ length (ps ++ q ∷ []) = simp (length-append, length-map) (omega arith) in
    let parts : ps ++ q ∷ [] ≡ image_parts image =
    ap (λ (segments : List ImageSegment). map image_part segments ++ q ∷ []) c.as_slice-segments.ensures
    ∙ ap (λ (code : Part). map image_part image.segments ++ code ∷ []) c.in_ok-code.ensures.part in
    let written = file_written (ps ++ q ∷ []) threads c.in_ok-tables.tables.symbols c.in_ok-tables.tables.strings c.in_ok-out.out.items _
    c.in_ok-places.places (slice_index threads 0) (length c.as_slice-segments.result.now + 1)
    c.in_ok-tables.ensures.symbols c.in_ok-tables.ensures.strings c.in_ok-places.ensures.value refl count c.in_ok-out.ensures c.in_ok-push_tables.ensures in
    let whole = written ∙ ap (λ (ps : List Part). image_file ps threads) parts ∙ ap (λ (ts : List ℕ). image_file (image_parts image) ts) c.as_slice-threads.ensures in
    let places = places_written (ps ++ q ∷ []) threads c.in_ok-tables.tables.symbols c.in_ok-tables.tables.strings c.in_ok-places.places
    c.in_ok-tables.ensures.symbols c.in_ok-tables.ensures.strings c.in_ok-places.ensures.value
    ∙ ap (λ (ps : List Part). places_of ps threads) parts ∙ ap (λ (ts : List ℕ). places_of (image_parts image) ts) c.as_slice-threads.ensures in
    file_of_image image _ c.requires c.in_ok-code.ensures.fit
    (subst (λ (ts : List ℕ). AllByRecursion (λ address. address < 2 ^ 64) ts) c.as_slice-threads.ensures c.in_ok-tables.ensures.fit)
    (subst (λ (p : Places). p.sections < 2 ^ 64) places c.in_ok-places.ensures.fits) whole
