use Rattle.std.proofs.Common.{◌^◌, ◌<◌, ◌∙◌, ap, subst, List, ℕ}
use Rattle.std.specs.Prelude.{flat_map}
use Rattle.std.specs.List.{AllByRecursion}
use Rattle.byteorder.specs.Endian.{little_bytes}
use Rattle.elf_write.proofs.Steps.{code_made}
use Rattle.elf_write.proofs.parts.code_segment.Goals as goal

pub returns : goal.returns
returns c = record {
  part = code_made c.args.image.now.code_address _ _ c.args.image.now.words c.as_slice-2.ensures
      (c.of-bytes.ensures ∙ c.in_ok-code_bytes.ensures.bytes ∙ ap (λ (words : List ℕ). flat_map (little_bytes 4) words) c.as_slice.ensures);
  fit = subst (λ (words : List ℕ). AllByRecursion (λ word. word < 2 ^ 32) words) c.as_slice.ensures c.in_ok-code_bytes.ensures.fit;
}
