-- Words over other registers.
use Rattle.std.specs.Prelude.{◌≡◌}
use Rattle.a64_code.specs.declared.instr.A64.{A64}
use Rattle.a64_code.specs.declared.instr.A64.TheVariants.{Add, Sub, Subs, And, Orr, Eor, AddImm, SubImm, Movz, Movk, Movn, Lslv, Lsrv, Asrv, Rorv, Udiv, Sdiv, Madd, Msub, Smulh, Umulh, Ubfm, Sbfm, Csel, Csinc, B, BCond, Cbz, Cbnz, Ldr, Str, Cas, Swp, Ldadd, Ldclr, Ldeor, Ldset, DmbFull, DmbLd, DmbSt, Nop, Brk, Svc}
use Rattle.a64_block.specs.declared.block.AEnd.{AEnd}
use Rattle.a64_block.specs.declared.block.AEnd.TheVariants as ends

-- the word whose registers have other names
abbrev pub renamed : {R S : Type 0} → (R → S) → A64 R → A64 S
renamed g (Add x d n m kind amount) = Add x (g d) (g n) (g m) kind amount
renamed g (Sub x d n m kind amount) = Sub x (g d) (g n) (g m) kind amount
renamed g (Subs x d n m kind amount) = Subs x (g d) (g n) (g m) kind amount
renamed g (And x d n m kind amount) = And x (g d) (g n) (g m) kind amount
renamed g (Orr x d n m kind amount) = Orr x (g d) (g n) (g m) kind amount
renamed g (Eor x d n m kind amount) = Eor x (g d) (g n) (g m) kind amount
renamed g (AddImm x d n number) = AddImm x (g d) (g n) number
renamed g (SubImm x d n number) = SubImm x (g d) (g n) number
renamed g (Movz x d v quarter) = Movz x (g d) v quarter
renamed g (Movk x d v quarter) = Movk x (g d) v quarter
renamed g (Movn x d v quarter) = Movn x (g d) v quarter
renamed g (Lslv x d n m) = Lslv x (g d) (g n) (g m)
renamed g (Lsrv x d n m) = Lsrv x (g d) (g n) (g m)
renamed g (Asrv x d n m) = Asrv x (g d) (g n) (g m)
renamed g (Rorv x d n m) = Rorv x (g d) (g n) (g m)
renamed g (Udiv x d n m) = Udiv x (g d) (g n) (g m)
renamed g (Sdiv x d n m) = Sdiv x (g d) (g n) (g m)
renamed g (Madd x d n m a) = Madd x (g d) (g n) (g m) (g a)
renamed g (Msub x d n m a) = Msub x (g d) (g n) (g m) (g a)
renamed g (Smulh d n m) = Smulh (g d) (g n) (g m)
renamed g (Umulh d n m) = Umulh (g d) (g n) (g m)
renamed g (Ubfm x d n immr imms) = Ubfm x (g d) (g n) immr imms
renamed g (Sbfm x d n immr imms) = Sbfm x (g d) (g n) immr imms
renamed g (Csel x d n m code) = Csel x (g d) (g n) (g m) code
renamed g (Csinc x d n m code) = Csinc x (g d) (g n) (g m) code
renamed g (B distance) = B distance
renamed g (BCond code distance) = BCond code distance
renamed g (Cbz x t distance) = Cbz x (g t) distance
renamed g (Cbnz x t distance) = Cbnz x (g t) distance
renamed g (Ldr size t n number) = Ldr size (g t) (g n) number
renamed g (Str size t n number) = Str size (g t) (g n) number
renamed g (Cas size s t n) = Cas size (g s) (g t) (g n)
renamed g (Swp size s t n) = Swp size (g s) (g t) (g n)
renamed g (Ldadd size s t n) = Ldadd size (g s) (g t) (g n)
renamed g (Ldclr size s t n) = Ldclr size (g s) (g t) (g n)
renamed g (Ldeor size s t n) = Ldeor size (g s) (g t) (g n)
renamed g (Ldset size s t n) = Ldset size (g s) (g t) (g n)
renamed g DmbFull = DmbFull
renamed g DmbLd = DmbLd
renamed g DmbSt = DmbSt
renamed g Nop = Nop
renamed g (Brk number) = Brk number
renamed g (Svc number) = Svc number

-- the same of an end
abbrev pub renamed_end : {R S : Type 0} → (R → S) → AEnd R → AEnd S
renamed_end g (ends.Goto a) = ends.Goto a
renamed_end g (ends.Branch r a b) = ends.Branch (g r) a b
renamed_end g (ends.Return r) = ends.Return (g r)
renamed_end g (ends.Indexed r table) = ends.Indexed (g r) table
renamed_end g (ends.Stop kind) = ends.Stop kind

-- the same end over other registers
abbrev pub IsRenamedEnd : {R S : Type 0} → AEnd R → AEnd S → Type 0
IsRenamedEnd {R} {S} end fin = (g : R → S) × (fin ≡ renamed_end g end)
