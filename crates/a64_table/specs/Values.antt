-- What A64 words compute, over registers of any kind (Arm ARM, C6.2, the operation of each instruction).
use Rattle.std.specs.Prelude.{ℕ, ◌+◌, ◌-◌, ◌*◌, ◌/◌, ◌%◌, ◌^◌, ◌==◌, ◌&&◌, not, nat_le, Bool, true, false, if◌then◌else◌, bit_and, bit_or, bit_xor, ◌-ℤ◌, Option, Some, None}
use Rattle.word_arith.specs.Bits.{differ, top_bit, insert}
use Rattle.word_arith.specs.Signed.{signed, fits_signed}
use Rattle.word_arith.specs.ArmWords.{bitfield_move, lslv, lsrv, asrv, rorv, madd, msub, umulh, smulh, udiv, sdiv, subs_value}
use Rattle.a64_code.specs.declared.instr.A64.{A64}
use Rattle.a64_code.specs.declared.instr.A64.TheVariants.{Add, Sub, And, Orr, Eor, AddImm, SubImm, Movz, Movk, Movn, Lslv, Lsrv, Asrv, Rorv, Udiv, Sdiv, Madd, Msub, Smulh, Umulh, Ubfm, Sbfm, Csel, Csinc}
use Rattle.a64_code.specs.Ranges.{bits}
use Rattle.a64_table.specs.declared.state.Nzcv.{Nzcv}

-- the low bits that a form works on
abbrev pub low : Bool → ℕ → ℕ
low x v = v % 2 ^ bits x

-- the second operand, shifted: LSL, LSR or ASR
abbrev pub shifted : Bool → (kind amount value : ℕ) → ℕ
shifted x kind amount v =
    if kind == 0 then lslv (bits x) (low x v) amount
    else (if kind == 1 then lsrv (bits x) (low x v) amount
    else asrv (bits x) (low x v) amount)

-- the conditions whose codes are even: EQ, CS, MI, VS, HI, GE and GT
abbrev pub even_holds : (half : ℕ) → Nzcv → Bool
even_holds half f =
    if half == 0 then f.z
    else (if half == 1 then f.c
    else (if half == 2 then f.n
    else (if half == 3 then f.v
    else (if half == 4 then f.c && not f.z
    else (if half == 5 then not (differ f.n f.v)
    else not f.z && not (differ f.n f.v))))))

-- the condition of a code, 0 to 13; an odd code is the opposite of the even one before it
unfoldable pub holds : (code : ℕ) → Nzcv → Bool
holds code f = differ (code % 2 == 1) (even_holds (code / 2) f)

-- the flags of SUBS: C says that nothing was borrowed, V that the exact difference does not fit
unfoldable pub subs_flags : (w a b : ℕ) → Nzcv
subs_flags w a b = record {
  n = top_bit w (subs_value w a b);
  z = subs_value w a b == 0;
  c = nat_le b a;
  v = not (fits_signed w (signed w a -ℤ signed w b));
}

-- What a word that only computes gives its result register, from what registers and flags hold; None for all others.
abbrev pub a64_value : {R : Type 0} → A64 R → (R → ℕ) → Nzcv → Option ℕ
a64_value (Add x d n m kind amount) r f = Some (low x (r n + shifted x kind amount (r m)))
a64_value (Sub x d n m kind amount) r f = Some (subs_value (bits x) (low x (r n)) (shifted x kind amount (r m)))
a64_value (And x d n m kind amount) r f = Some (low x (bit_and (r n) (shifted x kind amount (r m))))
a64_value (Orr x d n m kind amount) r f = Some (low x (bit_or (r n) (shifted x kind amount (r m))))
a64_value (Eor x d n m kind amount) r f = Some (low x (bit_xor (r n) (shifted x kind amount (r m))))
a64_value (AddImm x d n number) r f = Some (low x (r n + number))
a64_value (SubImm x d n number) r f = Some (subs_value (bits x) (low x (r n)) number)
a64_value (Movz x d v quarter) r f = Some (v * 2 ^ (16 * quarter))
a64_value (Movk x d v quarter) r f = Some (insert (16 * quarter) 16 (low x (r d)) v)
a64_value (Movn x d v quarter) r f = Some (2 ^ bits x - 1 - v * 2 ^ (16 * quarter))
a64_value (Lslv x d n m) r f = Some (lslv (bits x) (low x (r n)) (low x (r m)))
a64_value (Lsrv x d n m) r f = Some (lsrv (bits x) (low x (r n)) (low x (r m)))
a64_value (Asrv x d n m) r f = Some (asrv (bits x) (low x (r n)) (low x (r m)))
a64_value (Rorv x d n m) r f = Some (rorv (bits x) (low x (r n)) (low x (r m)))
a64_value (Udiv x d n m) r f = Some (udiv (bits x) (low x (r n)) (low x (r m)))
a64_value (Sdiv x d n m) r f = Some (sdiv (bits x) (low x (r n)) (low x (r m)))
a64_value (Madd x d n m a) r f = Some (madd (bits x) (low x (r a)) (low x (r n)) (low x (r m)))
a64_value (Msub x d n m a) r f = Some (msub (bits x) (low x (r a)) (low x (r n)) (low x (r m)))
a64_value (Smulh d n m) r f = Some (smulh (r n) (r m))
a64_value (Umulh d n m) r f = Some (umulh (r n) (r m))
a64_value (Ubfm x d n immr imms) r f = Some (bitfield_move false (bits x) immr imms (low x (r n)))
a64_value (Sbfm x d n immr imms) r f = Some (bitfield_move true (bits x) immr imms (low x (r n)))
a64_value (Csel x d n m code) r f = Some (if holds code f then low x (r n) else low x (r m))
a64_value (Csinc x d n m code) r f = Some (if holds code f then low x (r n) else low x (r m + 1))
a64_value w r f = None
