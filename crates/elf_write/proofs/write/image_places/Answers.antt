use Rattle.std.proofs.Common.{◌≡◌, ◌+◌, ◌*◌, ◌∙◌, ap, arith, map, length, List, ℕ, [], ◌∷◌, ◌++◌, length-append}
use Rattle.std.proofs.lemmas.List.{length-map}
use Rattle.elf_write.specs.Image.{image_part}
use Rattle.elf_write.specs.ImageFile.{parts_at, end_of, places_from}
use Rattle.elf_write.proofs.Steps.{end_with_last}
use Rattle.elf_write.proofs.write.image_places.Goals as goal

pub returns-clause-value : goal.returns-clause-value
returns-clause-value c =
    let ps = map image_part c.args.segments.now in
    let q = image_part c.args.code.now in
    let start : 64 + 56 * (length c.args.segments.now + 1) ≡ parts_at (ps ++ q ∷ []) = simp (length-append, length-map) (omega arith) in
    let size : c.in_ok-end.end ≡ c.in_ok-code_at.code_at + length q.bytes =
    c.in_ok-end.ensures.value ∙ ap (λ (bytes : List ℕ). c.in_ok-code_at.code_at + length bytes) c.as_slice.ensures in
    let ends : c.in_ok-end.end ≡ end_of (parts_at (ps ++ q ∷ [])) (ps ++ q ∷ []) = end_with_last ps q (64 + 56 * (length c.args.segments.now + 1)) c.in_ok-parts_end.field-0 c.in_ok-code_at.code_at c.in_ok-end.end start c.in_ok-parts_end.ensures c.in_ok-code_at.ensures size in
    c.in_ok-places.ensures.value
    ∙ ap (λ (end : ℕ). places_from end (length c.as_slice-symbols.result.now) (length c.as_slice-strings.result.now)) ends
    ∙ ap (λ (symbols : List ℕ). places_from (end_of (parts_at (ps ++ q ∷ [])) (ps ++ q ∷ [])) (length symbols) (length c.as_slice-strings.result.now)) c.as_slice-symbols.ensures
    ∙ ap (λ (strings : List ℕ). places_from (end_of (parts_at (ps ++ q ∷ [])) (ps ++ q ∷ [])) (length c.args.tables.now.symbols) (length strings)) c.as_slice-strings.ensures
