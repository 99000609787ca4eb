-- The memory that a thread sees, and the instructions of the code.
use Rattle.std.specs.Prelude.{◌≡◌, ℕ, ◌^◌, nat_lt, List, map, Option, None, if◌then◌else◌}
use Rattle.ev_graph.specs.declared.execution.Stack.{Stack}
use Rattle.ev_graph.specs.Memory.{Cell, allows}
use Rattle.ev_graph.specs.Start.{with_stacks}
use Rattle.behavior.specs.Tree.{Tree, Next}
use Rattle.a64_code.specs.declared.instr.XReg.{XReg}
use Rattle.a64_code.specs.declared.instr.A64.{A64}
use Rattle.a64_code.specs.Decoding.{a64_of}
use Rattle.a64_table.specs.Machine.{AThread, a64_step}
use Rattle.elf_write.specs.declared.image.Image.{Image}
use Rattle.elf_write.specs.Image.{image_cells}

-- the cells of the image and of the stacks at the addresses that 64 bits hold, which are all where the layout fits
abbrev pub low_cells : Image → List Stack → ℕ → Option Cell
low_cells image stacks n = if nat_lt n (2 ^ 64) then with_stacks (image_cells image) stacks n else None

-- the machine of a thread over these cells
abbrev pub low_step : Image → List Stack → AThread → Tree (Next AThread)
low_step image stacks = a64_step (allows (low_cells image stacks)) image.code_address image.words

-- these are the instructions that the words of the code spell, where they spell one
abbrev pub AreDecoded : Image → List (Option (A64 XReg)) → Type 0
AreDecoded image instrs = instrs ≡ map a64_of image.words
