-- The barriers among words, by their kinds.
use Rattle.std.specs.Prelude.{ℕ, List, [], ◌∷◌, flat_map, Option, Some, None}
use Rattle.ev_graph.specs.declared.events.FenceKind.{FenceKind}
use Rattle.ev_graph.specs.declared.events.FenceKind.TheVariants as kinds
use Rattle.a64_code.specs.declared.instr.XReg.{XReg}
use Rattle.a64_code.specs.declared.instr.A64.{A64}
use Rattle.a64_code.specs.declared.instr.A64.TheVariants as words
use Rattle.a64_code.specs.Decoding.{a64_of}

-- the kind of barrier that an instruction is, if it is one: DMB ISH, DMB ISHLD or DMB ISHST
abbrev pub barrier_of : {R : Type 0} → A64 R → List FenceKind
barrier_of words.DmbFull = kinds.DmbFull ∷ []
barrier_of words.DmbLd = kinds.DmbLd ∷ []
barrier_of words.DmbSt = kinds.DmbSt ∷ []
barrier_of a = []

-- the kinds of the barriers among instructions, in order
abbrev pub barriers_in : {R : Type 0} → List (A64 R) → List FenceKind
barriers_in instructions = flat_map barrier_of instructions

-- the same of what a word spells, if it spells an instruction
abbrev pub read_barrier : Option (A64 XReg) → List FenceKind
read_barrier None = []
read_barrier (Some a) = barrier_of a

-- the kinds of the barriers that words spell, in order
abbrev pub spelled_barriers : List ℕ → List FenceKind
spelled_barriers codes = flat_map (λ code. read_barrier (a64_of code)) codes
