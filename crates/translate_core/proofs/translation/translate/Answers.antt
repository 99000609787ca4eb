use Rattle.std.proofs.Common.{◌≤◌, ◌+◌, ◌*◌, List, length, sym, subst, arith}
use Rattle.elf_read.specs.ElfFile.{threads_of}
use Rattle.elf_write.specs.Written.{IsFileOf}
use Rattle.code_at.specs.Code.{program_of}
use Rattle.a64_code.specs.declared.instr.XReg.{XReg}
use Rattle.a64_block.specs.declared.block.ABlock.{ABlock}
use Rattle.code_layout.specs.Conditions.{AreClosed, AreBegun}
use Rattle.code_layout.specs.Places.{blocks_size}
use Rattle.translate_core.specs.Passed.{ArePassed}
use Rattle.translate_core.proofs.Closed.{closed, threads_begun, sites_begun}
use Rattle.translate_core.proofs.ImageBarriers.{image_barriers}
use Rattle.translate_core.proofs.Imaged.{image_carries, image_flags, image_follows, image_jumps}
use Rattle.translate_core.proofs.Sizes.{few_sites, passed_few, passed_fit}
use Rattle.translate_core.proofs.InOrder.{in_order_sorted}
use Rattle.translate_core.proofs.translation.translate.Goals as goal

pub plan_code-requires-clause-private : goal.plan_code-requires-clause-private
plan_code-requires-clause-private c = in_order_sorted c.in_ok-private.private.slots c.in_ok-private.ensures.sorted

pub pass_blocks-requires-clause-private : goal.pass_blocks-requires-clause-private
pass_blocks-requires-clause-private c = in_order_sorted c.in_ok-private.private.slots c.in_ok-private.ensures.sorted

pub lay_out-requires-clause-closed : goal.lay_out-requires-clause-closed
lay_out-requires-clause-closed c =
    subst AreClosed (sym c.as_slice.ensures) (closed c.in_ok-private.private.slots (program_of c.in_ok-elf.elf) c.in_ok-code.code c.in_ok-code.ensures.code c.in_ok-blocks.blocks c.in_ok-blocks.ensures)

pub lay_out-requires-clause-threads : goal.lay_out-requires-clause-threads
lay_out-requires-clause-threads c =
    subst (λ blocks. AreBegun blocks c.in_ok-elf.elf.threads) (sym c.as_slice.ensures)
    (threads_begun c.in_ok-private.private.slots (program_of c.in_ok-elf.elf) c.in_ok-code.code c.in_ok-code.ensures.code c.in_ok-blocks.blocks c.in_ok-blocks.ensures)

pub lay_out-requires-clause-sites : goal.lay_out-requires-clause-sites
lay_out-requires-clause-sites c =
    subst (λ blocks. AreBegun blocks c.in_ok-code.code.sites) (sym c.as_slice.ensures)
    (sites_begun c.in_ok-private.private.slots (program_of c.in_ok-elf.elf) c.in_ok-code.code c.in_ok-code.ensures.code c.in_ok-blocks.blocks c.in_ok-blocks.ensures)

pub lay_out-requires-clause-few_sites : goal.lay_out-requires-clause-few_sites
lay_out-requires-clause-few_sites c = few_sites (program_of c.in_ok-elf.elf) c.in_ok-code.code c.in_ok-code.ensures.code

pub lay_out-requires-clause-few : goal.lay_out-requires-clause-few
lay_out-requires-clause-few c =
    subst (λ (blocks : List (ABlock XReg)). blocks_size blocks + 15 * length c.in_ok-code.code.sites ≤ 64 * 65536) (sym c.as_slice.ensures)
    (passed_fit (program_of c.in_ok-elf.elf) c.in_ok-code.code c.in_ok-code.ensures.code c.in_ok-private.private.slots c.in_ok-blocks.blocks c.in_ok-blocks.ensures)

pub returns-clause-carries : goal.returns-clause-carries
returns-clause-carries c =
    let elf = c.in_ok-elf.elf in
    let code = c.in_ok-code.code in
    let blocks = c.as_slice.result.now in
    let passed : ArePassed c.in_ok-private.private.slots code code.blocks blocks = subst (ArePassed c.in_ok-private.private.slots code code.blocks) (sym c.as_slice.ensures) c.in_ok-blocks.ensures in
    let written = subst (IsFileOf c.in_ok-image.image) (sym c.of.ensures) c.in_ok-file.ensures in
    let e = c.in_ok-elf.ensures in
    let laid = c.in_ok-image.ensures in
    image_carries c.in_ok-private.private.slots c.args.bytes.now c.of.result elf code blocks c.in_ok-image.image e.first
    (record { segments = e.segments; threads = e.threads; input = e.input; output = e.output; program = e.program })
    c.in_ok-code.ensures.code c.in_ok-check_flags.ensures.first passed
    (record { carried = laid.carried; threads = laid.threads; segments = laid.segments; is_image = laid.image })
    written

pub returns-clause-follows : goal.returns-clause-follows
returns-clause-follows c =
    let elf = c.in_ok-elf.elf in
    let code = c.in_ok-code.code in
    let blocks = c.as_slice.result.now in
    let passed : ArePassed c.in_ok-private.private.slots code code.blocks blocks = subst (ArePassed c.in_ok-private.private.slots code code.blocks) (sym c.as_slice.ensures) c.in_ok-blocks.ensures in
    let written = subst (IsFileOf c.in_ok-image.image) (sym c.of.ensures) c.in_ok-file.ensures in
    let e = c.in_ok-elf.ensures in
    let laid = c.in_ok-image.ensures in
    image_follows c.in_ok-private.private.slots c.args.bytes.now c.of.result elf code blocks c.in_ok-image.image e.first
    (record { segments = e.segments; threads = e.threads; input = e.input; output = e.output; program = e.program })
    c.in_ok-code.ensures.code c.in_ok-check_flags.ensures.first passed
    (record { carried = laid.carried; threads = laid.threads; segments = laid.segments; is_image = laid.image })
    written

pub returns-clause-jumps : goal.returns-clause-jumps
returns-clause-jumps c =
    let elf = c.in_ok-elf.elf in
    let code = c.in_ok-code.code in
    let blocks = c.as_slice.result.now in
    let passed : ArePassed c.in_ok-private.private.slots code code.blocks blocks = subst (ArePassed c.in_ok-private.private.slots code code.blocks) (sym c.as_slice.ensures) c.in_ok-blocks.ensures in
    let written = subst (IsFileOf c.in_ok-image.image) (sym c.of.ensures) c.in_ok-file.ensures in
    let e = c.in_ok-elf.ensures in
    let laid = c.in_ok-image.ensures in
    image_jumps c.in_ok-private.private.slots c.args.bytes.now c.of.result elf code blocks c.in_ok-image.image e.first
    (record { segments = e.segments; threads = e.threads; input = e.input; output = e.output; program = e.program })
    c.in_ok-code.ensures.code c.in_ok-check_flags.ensures.first passed
    (record { carried = laid.carried; threads = laid.threads; segments = laid.segments; is_image = laid.image })
    written

pub returns-clause-flags : goal.returns-clause-flags
returns-clause-flags c =
    let elf = c.in_ok-elf.elf in
    let code = c.in_ok-code.code in
    let blocks = c.as_slice.result.now in
    let passed : ArePassed c.in_ok-private.private.slots code code.blocks blocks = subst (ArePassed c.in_ok-private.private.slots code code.blocks) (sym c.as_slice.ensures) c.in_ok-blocks.ensures in
    let written = subst (IsFileOf c.in_ok-image.image) (sym c.of.ensures) c.in_ok-file.ensures in
    let e = c.in_ok-elf.ensures in
    let laid = c.in_ok-image.ensures in
    image_flags c.in_ok-private.private.slots c.args.bytes.now c.of.result elf code blocks c.in_ok-image.image e.first
    (record { segments = e.segments; threads = e.threads; input = e.input; output = e.output; program = e.program })
    c.in_ok-code.ensures.code c.in_ok-check_flags.ensures.first passed
    (record { carried = laid.carried; threads = laid.threads; segments = laid.segments; is_image = laid.image })
    written

pub returns-clause-few : goal.returns-clause-few
returns-clause-few c =
    let few =
    subst (λ (blocks : List (ABlock XReg)). blocks_size blocks + 15 * length c.in_ok-code.code.sites ≤ 64 * length c.in_ok-code.code.placed) (sym c.as_slice.ensures)
    (passed_few (program_of c.in_ok-elf.elf) c.in_ok-code.code c.in_ok-code.ensures.code c.in_ok-private.private.slots c.in_ok-blocks.blocks c.in_ok-blocks.ensures) in
    let size = c.in_ok-image.ensures.size in
    omega (arith, few, size)

pub returns-clause-barriers : goal.returns-clause-barriers
returns-clause-barriers c =
    let private = c.in_ok-private.private.slots in
    let code = c.in_ok-code.code in
    let blocks = c.as_slice.result.now in
    let passed : ArePassed private code code.blocks blocks = subst (ArePassed private code code.blocks) (sym c.as_slice.ensures) c.in_ok-blocks.ensures in
    image_barriers (program_of c.in_ok-elf.elf) code c.in_ok-code.ensures.code private blocks c.in_ok-image.image.words (length (threads_of c.args.bytes.now)) passed c.in_ok-image.ensures.barriers
