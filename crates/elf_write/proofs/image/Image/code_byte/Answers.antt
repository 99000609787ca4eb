use Rattle.elf_write.proofs.Cells.{code_byte_read}
use Rattle.elf_write.proofs.image.Image.code_byte.Goals as goal

pub returns : goal.returns
returns c = code_byte_read c.as_slice.result.now c.args.self.now.words c.write_u32.new.buf c.args.offset c.as_slice.ensures c.write_u32.ensures
