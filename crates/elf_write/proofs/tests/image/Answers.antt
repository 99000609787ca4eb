use Rattle.std.proofs.Common.{◌≡◌, ℕ, List, [], ◌∷◌, length, map, arith, sym, ◌∙◌, ap, refl, subst, lit<, lit≤}
use Rattle.std.specs.List.{AllByRecursion}
use Rattle.std.proofs.lemmas.List.{length-map}
use Rattle.ev_graph.specs.Memory.{Part}
use Rattle.elf_read.specs.declared.elf.Segment.{Segment}
use Rattle.elf_read.specs.Elf.{AreApart, segment_part}
use Rattle.elf_write.specs.declared.image.Image.{Image}
use Rattle.elf_write.specs.declared.image.ImageSegment.{ImageSegment}
use Rattle.elf_write.specs.Image.{image_part, IsCodeAddress, IsKept, IsImage, kept}
use Rattle.elf_write.proofs.tests.image.Goals as goal

-- code that may be read, and cells behind it
two_parts : List ℕ → List ℕ → List Part
two_parts code cells =
    record { address = 0x401000; size = 44; flags = 4; bytes = code } ∷ record { address = 0x404000; size = 64; flags = 6; bytes = cells } ∷ []

is_image : (image : Image) (code cells : List ℕ) → map image_part image.segments ≡ two_parts code cells → length image.segments ≡ 2
    → length code ≡ 44 → length cells ≡ 64 → length image.threads ≡ 2
    → IsCodeAddress (map image_part image.segments) image.code_address → IsImage image
unfolding two_parts
is_image image code cells same few code_size cells_size threads behind =
    let each : AllByRecursion IsKept (two_parts code cells) = (
      record { some = lit< tt; filled = omega (arith, code_size); data_alone = refl; low = lit≤ tt },
      (record { some = lit< tt; filled = omega (arith, cells_size); data_alone = refl; low = lit≤ tt }, tt),
    ) in
    let apart : AreApart (two_parts code cells) = (((λ n from to low high. omega (arith, to, low)), tt), (tt, tt)) in
    record {
      some_thread = omega (arith, threads);
      few_threads = omega (arith, threads);
      few_segments = omega (arith, few);
      segments = subst (AllByRecursion IsKept) (sym same) each;
      apart = subst AreApart (sym same) apart;
      behind = behind;
    }

pub returns : goal.returns
unfolding two_parts
returns c =
    let code = c.of.result in
    let cells = c.of-3.result in
    let input = c.deref.ensures.value ∙ c.in_ok-input.ensures.items in
    let same : map image_part c.in_ok-segments.segments ≡ two_parts code cells =
    c.in_ok-segments.ensures ∙ ap (λ (segments : List Segment). kept (map segment_part segments)) input in
    let seen : c.as_slice.result.now ≡ c.in_ok-segments.segments = c.as_slice.ensures in
    is_image (record { segments = c.in_ok-segments.segments; code_address = c.code_address-code_address.result; words = c.of-4.result; threads = c.of-5.result }) code cells same
    (sym (simp length-map) ∙ ap length same)
    (ap length (c.of.ensures ∙ c.in_ok-from_slice.ensures.items)) (ap length (c.of-3.ensures ∙ c.in_ok-from_slice-2.ensures.items))
    (ap length (c.of-5.ensures ∙ c.in_ok-from_slice-4.ensures.items))
    (subst (λ (segments : List ImageSegment). IsCodeAddress (map image_part segments) c.code_address-code_address.result) seen c.code_address-code_address.ensures.place)
