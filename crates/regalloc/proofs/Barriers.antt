-- Words over other registers have the same barriers.
use Rattle.std.proofs.Common.{◌≡◌, ℕ, List, [], ◌∷◌, ◌++◌, map, Option, refl, sym, ap, ◌∙◌}
use Rattle.std.proofs.lemmas.List.Concat.{flat_map-cons}
use Rattle.a64_code.specs.declared.instr.XReg.{XReg}
use Rattle.a64_code.specs.declared.instr.A64.{A64}
use Rattle.a64_code.specs.declared.instr.A64.TheVariants.{Add, Sub, Subs, And, Orr, Eor, AddImm, SubImm, Movz, Movk, Movn, Lslv, Lsrv, Asrv, Rorv, Udiv, Sdiv, Madd, Msub, Smulh, Umulh, Ubfm, Sbfm, Csel, Csinc, B, BCond, Cbz, Cbnz, Ldr, Str, Cas, Swp, Ldadd, Ldclr, Ldeor, Ldset, DmbFull, DmbLd, DmbSt, Nop, Brk, Svc}
use Rattle.a64_block.specs.Barriers.{barrier_of, barriers_in}
use Rattle.a64_block.specs.Renamed.{renamed}
use Rattle.a64_block.specs.declared.block.AEnd.{AEnd}
use Rattle.regalloc.specs.Slots.{register_of, AreSlots}

-- one word
same_barrier : {R S : Type 0} (g : R → S) (a : A64 R) → barrier_of (renamed g a) ≡ barrier_of a
same_barrier g (Add x d n m kind amount) = refl
same_barrier g (Sub x d n m kind amount) = refl
same_barrier g (Subs x d n m kind amount) = refl
same_barrier g (And x d n m kind amount) = refl
same_barrier g (Orr x d n m kind amount) = refl
same_barrier g (Eor x d n m kind amount) = refl
same_barrier g (AddImm x d n number) = refl
same_barrier g (SubImm x d n number) = refl
same_barrier g (Movz x d v quarter) = refl
same_barrier g (Movk x d v quarter) = refl
same_barrier g (Movn x d v quarter) = refl
same_barrier g (Lslv x d n m) = refl
same_barrier g (Lsrv x d n m) = refl
same_barrier g (Asrv x d n m) = refl
same_barrier g (Rorv x d n m) = refl
same_barrier g (Udiv x d n m) = refl
same_barrier g (Sdiv x d n m) = refl
same_barrier g (Madd x d n m a) = refl
same_barrier g (Msub x d n m a) = refl
same_barrier g (Smulh d n m) = refl
same_barrier g (Umulh d n m) = refl
same_barrier g (Ubfm x d n immr imms) = refl
same_barrier g (Sbfm x d n immr imms) = refl
same_barrier g (Csel x d n m code) = refl
same_barrier g (Csinc x d n m code) = refl
same_barrier g (B distance) = refl
same_barrier g (BCond code distance) = refl
same_barrier g (Cbz x t distance) = refl
same_barrier g (Cbnz x t distance) = refl
same_barrier g (Ldr size t n number) = refl
same_barrier g (Str size t n number) = refl
same_barrier g (Cas size s t n) = refl
same_barrier g (Swp size s t n) = refl
same_barrier g (Ldadd size s t n) = refl
same_barrier g (Ldclr size s t n) = refl
same_barrier g (Ldeor size s t n) = refl
same_barrier g (Ldset size s t n) = refl
same_barrier g DmbFull = refl
same_barrier g DmbLd = refl
same_barrier g DmbSt = refl
same_barrier g Nop = refl
same_barrier g (Brk number) = refl
same_barrier g (Svc number) = refl

-- words one behind the other
pub same_barriers : {R S : Type 0} (g : R → S) (xs : List (A64 R)) → barriers_in (map (renamed g) xs) ≡ barriers_in xs
same_barriers g [] = refl
same_barriers g (x ∷ xs) =
    flat_map-cons barrier_of (renamed g x) (map (renamed g) xs) ∙ ap (λ l. l ++ barriers_in (map (renamed g) xs)) (same_barrier g x) ∙ ap (λ l. barrier_of x ++ l) (same_barriers g xs)
    ∙ sym (flat_map-cons barrier_of x xs)

-- the words of an allocation
pub allocated_barriers : (ws : List (A64 ℕ)) (end : AEnd ℕ) (slots : ℕ → Option ℕ) (xs words : List (A64 XReg)) (same : List (A64 ℕ)) → AreSlots end ws slots → xs ≡ words → words ≡ map (renamed (register_of slots)) same → same ≡ ws
    → barriers_in xs ≡ barriers_in ws
allocated_barriers ws end slots xs words same are is is' is'' = ap barriers_in (is ∙ is' ∙ ap (map (renamed (register_of slots))) is'') ∙ same_barriers (register_of slots) ws
