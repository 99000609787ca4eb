use Rattle.std.proofs.Common.{◌≡◌, ◌+◌, ◌*◌, ◌∙◌, ap, arith, map, length, List, ℕ, [], ◌∷◌, ◌++◌, length-append}
use Rattle.std.proofs.lemmas.List.{length-map}
use Rattle.elf_format.specs.declared.headers.ProgramHeader.{ProgramHeader}
use Rattle.elf_write.specs.Image.{image_part}
use Rattle.elf_write.specs.ImageFile.{parts_at, program_headers, header_of, offset_after, end_of}
use Rattle.elf_format.specs.Headers.{file_header, program_header}
use Rattle.elf_write.proofs.Steps.{front_built}
use Rattle.elf_write.proofs.write.image_front.Goals as goal

pub returns : goal.returns
returns c =
    let ps = map image_part c.args.segments.now in
    let q = image_part c.args.code.now in
    let start : 64 + 56 * (length c.args.segments.now + 1) ≡ parts_at (ps ++ q ∷ []) = simp (length-append, length-map) (omega arith) in
    let begun : c.push_file_header.new.out.items ≡ file_header c.args.header = c.in_ok-push_file_header.ensures ∙ ap (λ (out : List ℕ). out ++ file_header c.args.header) c.new-out.ensures.items in
    let header : c.in_ok-code_header.code_header ≡ header_of (offset_after (end_of (64 + 56 * (length c.args.segments.now + 1)) ps) q.address) q =
    c.in_ok-code_header.ensures ∙ ap (λ (end : ℕ). header_of (offset_after end q.address) q) c.in_ok-parts_end.ensures in
    let second : c.push_program_header.new.out.items ≡ c.push_program_headers.new.out.items ++ program_headers (end_of (64 + 56 * (length c.args.segments.now + 1)) ps) (q ∷ []) =
    c.in_ok-push_program_header.ensures ∙ ap (λ (h : ProgramHeader). c.push_program_headers.new.out.items ++ program_header h) header in
    front_built (file_header c.args.header) _ _ _ _ ps q (64 + 56 * (length c.args.segments.now + 1)) start
    (c.in_ok-push_program_headers.ensures ∙ ap (λ (out : List ℕ). out ++ program_headers (64 + 56 * (length c.args.segments.now + 1)) ps) begun)
    second c.in_ok-push_parts.ensures c.in_ok-push_part.ensures
