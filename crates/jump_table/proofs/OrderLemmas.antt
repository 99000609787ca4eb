-- The instructions of a pattern, one behind the other.
use Rattle.std.proofs.Common.{◌≡◌, ◌<◌, ℕ, zero, suc, [], ◌∷◌, Some, true, refl, subst, arith}
use Rattle.std.specs.List.{slice_get}
use Rattle.x64_syntax.specs.declared.instr.Instr.{Instr}
use Rattle.x64_syntax.specs.declared.instr.Instr.TheVariants as instr
use Rattle.x64_syntax.specs.declared.operand.Width.{Width}
use Rattle.x64_syntax.specs.declared.operand.Width.TheVariants as width
use Rattle.code_at.specs.Code.{Program}
use Rattle.code_at.proofs.CallerLemmas.{some_length}
use Rattle.jump_table.specs.declared.entries.Table.{Table}
use Rattle.jump_table.specs.Instructions.{Stands, compare, above, copy, goes_on, Sets}
use Rattle.jump_table.specs.Pattern.{IsPattern, compared, copied, bounded, short_table, long_table, IsJustBefore}

-- an instruction ends behind its address
pub stands_rises : (program : Program) (a : ℕ) (i : Instr) (b : ℕ) → Stands program a i b → a < b
stands_rises program a i b stands =
    let some = some_length program a stands.placed stands.stands in
    omega (arith, some, stands.ends)

sets_goes_on : (r : ℕ) (i : Instr) → Sets r i → goes_on i ≡ true
sets_goes_on r (instr.Alu o w to from locked) sets = refl
sets_goes_on r (instr.Mov w to from) sets = refl
sets_goes_on r (instr.MovZx w v to from) sets = refl
sets_goes_on r (instr.MovSx w v to from) sets = refl
sets_goes_on r (instr.Lea w to from) sets = refl
sets_goes_on r (instr.Jcc condition displacement) sets = refl
sets_goes_on r _ sets = absurd cc

copy_goes_on : (w : Width) (r q : ℕ) → goes_on (copy w r q) ≡ true
copy_goes_on width.Byte r q = refl
copy_goes_on width.Word r q = refl
copy_goes_on width.Long r q = refl
copy_goes_on width.Quad r q = refl

-- an instruction of a pattern behind which another stands
pub record GoesOnTo (program : Program) (a x : ℕ) : Type 0 where
  pub instr : Instr
  pub goes : goes_on instr ≡ true
  pub stands : Stands program a instr x

goes_as : (program : Program) (a b x y : ℕ) → a ≡ b → x ≡ y → GoesOnTo program a x → GoesOnTo program b y
goes_as program a b x y e f goes = subst (λ z. GoesOnTo program z y) e (subst (λ z. GoesOnTo program a z) f goes)

short_steps : (program : Program) (a b c r base n x y : ℕ) → GoesOnTo program a b → GoesOnTo program b c
    → IsJustBefore (short_table a b c r base n) x y → GoesOnTo program x y
short_steps program a b c r base n x y first second just = by_place just.place just.before just.behind
  where
    by_place : (place : ℕ) → slice_get (a ∷ b ∷ c ∷ []) place ≡ Some x → slice_get (b ∷ c ∷ []) place ≡ Some y → GoesOnTo program x y
    by_place zero before behind = goes_as program a x b y (cc) (cc) first
    by_place (suc zero) before behind = goes_as program b x c y (cc) (cc) second
    by_place (suc (suc k)) before behind = absurd cc

long_steps : (program : Program) (a b c e r base n x y : ℕ) → GoesOnTo program a b → GoesOnTo program b c → GoesOnTo program c e
    → IsJustBefore (long_table a b c e r base n) x y → GoesOnTo program x y
long_steps program a b c e r base n x y first second third just = by_place just.place just.before just.behind
  where
    by_place : (place : ℕ) → slice_get (a ∷ b ∷ c ∷ e ∷ []) place ≡ Some x → slice_get (b ∷ c ∷ e ∷ []) place ≡ Some y
        → GoesOnTo program x y
    by_place zero before behind = goes_as program a x b y (cc) (cc) first
    by_place (suc zero) before behind = goes_as program b x c y (cc) (cc) second
    by_place (suc (suc zero)) before behind = goes_as program c x e y (cc) (cc) third
    by_place (suc (suc (suc k))) before behind = absurd cc

-- each instruction of a pattern but the jump stands, and control goes on behind it, at the next
pub pattern_goes_on : (program : Program) (table : Table) (target : ℕ) → IsPattern program table target → (a x : ℕ)
    → IsJustBefore table a x → GoesOnTo program a x
pattern_goes_on program table target (compared {a = a} {b = b} {c = c} {r = r} {n = n} {d = d} {base = base} first branches jumps) x
    y just =
    short_steps program a b c r base n x y (record { instr = compare width.Quad r n; goes = refl; stands = first })
    (record { instr = above d; goes = refl; stands = branches }) just
pattern_goes_on program table target (copied {a = a} {b = b} {c = c} {e = e} {q = q} {r = r} {n = n} {d = d} {base = base} {w = w}
    narrow free first branches copies jumps) x y just =
    long_steps program a b c e r base n x y (record { instr = compare w q n; goes = refl; stands = first })
    (record { instr = above d; goes = refl; stands = branches })
    (record { instr = copy w r q; goes = copy_goes_on w r q; stands = copies }) just
pattern_goes_on program table target (bounded {a = a} {b = b} {c = c} {e = e} {r = r} {n = n} {d = d} {base = base} {i = i} sets
    first bounds branches jumps) x y just =
    long_steps program a b c e r base n x y (record { instr = i; goes = sets_goes_on r i sets; stands = first })
    (record { instr = compare width.Long r n; goes = refl; stands = bounds })
    (record { instr = above d; goes = refl; stands = branches }) just

-- ---- what stands just before an address of a pattern

short_before : (a b c r base n x z y : ℕ) → b < c → IsJustBefore (short_table a b c r base n) x y
    → IsJustBefore (short_table a b c r base n) z y → x ≡ z
short_before a b c r base n x z y rises one two = by_places one.place two.place one.before one.behind two.before two.behind
  where
    by_places : (i j : ℕ) → slice_get (a ∷ b ∷ c ∷ []) i ≡ Some x → slice_get (b ∷ c ∷ []) i ≡ Some y
        → slice_get (a ∷ b ∷ c ∷ []) j ≡ Some z → slice_get (b ∷ c ∷ []) j ≡ Some y → x ≡ z
    by_places zero zero p q u v = cc
    by_places zero (suc zero) p q u v = let same : b ≡ c = cc in absurd (omega (arith, same, rises))
    by_places (suc zero) zero p q u v = let same : b ≡ c = cc in absurd (omega (arith, same, rises))
    by_places (suc zero) (suc zero) p q u v = cc
    by_places (suc (suc i)) j p q u v = absurd cc
    by_places i (suc (suc j)) p q u v = absurd cc

long_before : (a b c e r base n x z y : ℕ) → b < c → c < e → IsJustBefore (long_table a b c e r base n) x y
    → IsJustBefore (long_table a b c e r base n) z y → x ≡ z
long_before a b c e r base n x z y rises rises_on one two = by_places one.place two.place one.before one.behind two.before two.behind
  where
    by_places : (i j : ℕ) → slice_get (a ∷ b ∷ c ∷ e ∷ []) i ≡ Some x → slice_get (b ∷ c ∷ e ∷ []) i ≡ Some y
        → slice_get (a ∷ b ∷ c ∷ e ∷ []) j ≡ Some z
        → slice_get (b ∷ c ∷ e ∷ []) j ≡ Some y → x ≡ z
    by_places zero zero p q u v = cc
    by_places zero (suc zero) p q u v = let same : b ≡ c = cc in absurd (omega (arith, same, rises))
    by_places zero (suc (suc zero)) p q u v = let same : b ≡ e = cc in absurd (omega (arith, same, rises, rises_on))
    by_places (suc zero) zero p q u v = let same : b ≡ c = cc in absurd (omega (arith, same, rises))
    by_places (suc zero) (suc zero) p q u v = cc
    by_places (suc zero) (suc (suc zero)) p q u v = let same : c ≡ e = cc in absurd (omega (arith, same, rises_on))
    by_places (suc (suc zero)) zero p q u v = let same : b ≡ e = cc in absurd (omega (arith, same, rises, rises_on))
    by_places (suc (suc zero)) (suc zero) p q u v = let same : c ≡ e = cc in absurd (omega (arith, same, rises_on))
    by_places (suc (suc zero)) (suc (suc zero)) p q u v = cc
    by_places (suc (suc (suc i))) j p q u v = absurd cc
    by_places i (suc (suc (suc j))) p q u v = absurd cc

-- one instruction of a pattern stands just before another
pub one_before : (program : Program) (table : Table) (target : ℕ) → IsPattern program table target → (x z y : ℕ)
    → IsJustBefore table x y → IsJustBefore table z y → x ≡ z
one_before program table target (compared {a = a} {b = b} {c = c} {r = r} {n = n} {d = d} {base = base} first branches jumps) x z y =
    short_before a b c r base n x z y (stands_rises program b (above d) c branches)
one_before program table target (copied {a = a} {b = b} {c = c} {e = e} {q = q} {r = r} {n = n} {d = d} {base = base} {w = w} narrow
    free first branches copies jumps) x z y =
    long_before a b c e r base n x z y (stands_rises program b (above d) c branches) (stands_rises program c (copy w r q) e copies)
one_before program table target (bounded {a = a} {b = b} {c = c} {e = e} {r = r} {n = n} {d = d} {base = base} {i = i} sets first
    bounds branches jumps) x z y =
    long_before a b c e r base n x z y (stands_rises program b (compare width.Long r n) c bounds)
    (stands_rises program c (above d) e branches)
