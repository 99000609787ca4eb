use Rattle.std.proofs.Common.{◌≡◌, ◌^◌, ◌+◌, ◌*◌, ℕ, length, map, arith, refl, sym, subst, ap, ◌∙◌}
use mathlib.Core.Path.{fun_ext}
use Rattle.std.proofs.lemmas.List.{length-map}
use Rattle.elf_read.specs.Elf.{parts_of, segment_part}
use Rattle.elf_write.specs.Image.{image_part, kept, EndBefore, IsCodeAddress}
use Rattle.elf_write.proofs.CallerLemmas.{kept_end_before, image_of_program}
use Rattle.code_layout.specs.Places.{words_before, place_from, start_of, ArePlacesOf}
use Rattle.cfg_walk.specs.Machine.{exits_of}
use Rattle.code_layout.specs.Code.{IsLaidOut}
use Rattle.code_layout.proofs.Starts.{told_is, are_told}
use Rattle.code_layout.proofs.Placed.{laid_out_carries}
use Rattle.code_layout.proofs.Laying.{laid_out_size, laid_out_barriers}
use Rattle.code_layout.proofs.layout.lay_out.Goals as goal

pub code_address-code_address-requires : goal.code_address-code_address-requires
code_address-code_address-requires c =
    let same : map image_part c.as_slice-2.result.now ≡ kept (parts_of c.args.elf.now) =
    ap (map image_part) c.as_slice-2.ensures ∙ c.in_ok-segments.ensures ∙ ap (λ ss. kept (map segment_part ss)) c.as_slice.ensures in
    subst (EndBefore (2 ^ 46)) (sym same) (kept_end_before (parts_of c.args.elf.now) c.requires.program.segments)

pub thread_places-requires-clause-places : goal.thread_places-requires-clause-places
thread_places-requires-clause-places c =
    let places = c.in_ok-places.ensures in
    are_told c.args.blocks.now c.in_ok-places.places (record { firsts_are = places.firsts; starts_are = places.starts; end_is = places.end }) c.requires.closed.sorted (omega (arith, c.requires.few))

pub returns-clause-carried : goal.returns-clause-carried
returns-clause-carried c =
    let blocks = c.args.blocks.now in
    let code = c.args.code.now in
    let laid = subst (IsLaidOut blocks code.sites) (sym c.of-2.ensures) (subst (λ sites. IsLaidOut blocks sites c.in_ok-words.words.items) c.as_slice-3.ensures c.in_ok-words.ensures) in
    laid_out_carries c.code_address-code_address.result blocks code.sites c.of-2.result
    (exits_of code) c.requires.closed c.requires.sites c.requires.few_sites c.requires.few c.code_address-code_address.ensures.low (λ v. refl) laid

pub returns-clause-threads : goal.returns-clause-threads
returns-clause-threads c =
    let blocks = c.args.blocks.now in
    let places = c.in_ok-places.ensures in
    let are : ArePlacesOf blocks c.in_ok-places.places = record { firsts_are = places.firsts; starts_are = places.starts; end_is = places.end } in
    let at = c.code_address-code_address.result in
    let same : start_of c.in_ok-places.places ≡ words_before blocks = fun_ext (told_is blocks c.in_ok-places.places are) in
    let told : c.in_ok-threads.threads.items ≡ map (λ entry. at + 4 * start_of c.in_ok-places.places entry) c.as_slice-4.result.now = c.in_ok-threads.ensures in
    c.of-3.ensures ∙ told ∙ ap (λ (start : ℕ → ℕ). map (λ entry. at + 4 * start entry) c.as_slice-4.result.now) same ∙ ap (map (place_from at blocks)) c.as_slice-4.ensures

pub returns-clause-image : goal.returns-clause-image
returns-clause-image c =
    let parts = parts_of c.args.elf.now in
    let at = c.code_address-code_address.result in
    let same : map image_part c.in_ok-segments.segments ≡ kept parts = c.in_ok-segments.ensures ∙ ap (λ ss. kept (map segment_part ss)) c.as_slice.ensures in
    let told : c.in_ok-threads.threads.items ≡ map (λ entry. at + 4 * start_of c.in_ok-places.places entry) c.as_slice-4.result.now = c.in_ok-threads.ensures in
    image_of_program (record { segments = c.in_ok-segments.segments; code_address = at; words = c.of-2.result; threads = c.of-3.result }) parts c.args.elf.now.threads c.requires.program same
    (ap length (c.of-3.ensures ∙ told) ∙ length-map c.as_slice-4.result.now (λ entry. at + 4 * start_of c.in_ok-places.places entry) ∙ ap length c.as_slice-4.ensures)
    (subst (λ ss. IsCodeAddress (map image_part ss) at) c.as_slice-2.ensures c.code_address-code_address.ensures.place)

pub returns-clause-size : goal.returns-clause-size
returns-clause-size c =
    let blocks = c.args.blocks.now in
    let laid = subst (IsLaidOut blocks c.args.code.now.sites) (sym c.of-2.ensures) (subst (λ sites. IsLaidOut blocks sites c.in_ok-words.words.items) c.as_slice-3.ensures c.in_ok-words.ensures) in
    laid_out_size blocks c.args.code.now.sites c.of-2.result laid

pub returns-clause-barriers : goal.returns-clause-barriers
returns-clause-barriers c =
    let blocks = c.args.blocks.now in
    let laid = subst (IsLaidOut blocks c.args.code.now.sites) (sym c.of-2.ensures) (subst (λ sites. IsLaidOut blocks sites c.in_ok-words.words.items) c.as_slice-3.ensures c.in_ok-words.ensures) in
    laid_out_barriers blocks c.args.code.now.sites c.of-2.result c.requires.closed (omega (arith, c.requires.few)) laid
