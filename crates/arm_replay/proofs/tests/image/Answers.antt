use Rattle.std.proofs.Common.{◌≡◌, ◌<◌, ◌≤◌, ℕ, List, [], ◌∷◌, length, map, arith, sym, ◌∙◌, ap, refl, subst, lit<, lit≤}
use Rattle.std.specs.List.{AllByRecursion}
use Rattle.std.proofs.lemmas.List.{length-map}
use Rattle.ev_graph.specs.Memory.{Part}
use Rattle.elf_write.specs.declared.image.Image.{Image}
use Rattle.elf_write.specs.declared.image.ImageSegment.{ImageSegment}
use Rattle.elf_write.specs.Image.{image_part, IsCodeAddress, IsKept, IsImage}
use Rattle.arm_replay.proofs.tests.image.Goals as goal

-- eight cells
cells : List ImageSegment
cells = record { address = 0x404000; size = 64; flags = 6; bytes = [] } ∷ []

is_image : (image : Image) → image.segments ≡ cells → 0 < length image.threads → length image.threads ≤ 16
    → IsCodeAddress (map image_part image.segments) image.code_address → IsImage image
unfolding cells
is_image image same some few behind =
    let each : AllByRecursion IsKept (map image_part cells) = (record { some = lit< tt; filled = lit≤ tt; data_alone = refl; low = lit≤ tt }, tt) in
    record {
      some_thread = some;
      few_threads = few;
      few_segments = subst (λ l. length l ≤ 64) (sym same) (lit≤ tt);
      segments = subst (λ l. AllByRecursion IsKept (map image_part l)) (sym same) each;
      apart = rw same (tt, tt);
      behind = behind;
    }

pub returns : goal.returns
unfolding cells
returns c =
    let same : c.of-2.result ≡ cells =
    c.of-2.ensures ∙ c.in_ok-segments.ensures.items
    ∙ ap (λ (bytes : List ℕ). record { address = 0x404000; size = 64; flags = 6; bytes = bytes } ∷ []) (c.of.ensures ∙ c.new.ensures.items) in
    let many : length c.of-4.result ≡ length c.args.threads.now = ap length (c.of-4.ensures ∙ c.in_ok-from_slice-2.ensures.items) in
    is_image (record { segments = c.of-2.result; code_address = c.code_address-code_address.result; words = c.of-3.result; threads = c.of-4.result }) same
    (omega (arith, many, c.requires.some)) (omega (arith, many, c.requires.few))
    (subst (λ (segments : List ImageSegment). IsCodeAddress (map image_part segments) c.code_address-code_address.result) (c.as_slice.ensures.value ∙ sym c.of-2.ensures) c.code_address-code_address.ensures.place)
