-- Two patterns with one jump.
use Rattle.std.proofs.Common.{◌≡◌, ℕ, Some, refl, sym, ap, subst, inl, inr}
use Rattle.std.proofs.lemmas.Bool.{cases_eq}
use Rattle.x64_syntax.specs.declared.instr.Instr.{Instr}
use Rattle.x64_syntax.specs.declared.operand.Width.{Width}
use Rattle.x64_syntax.specs.declared.operand.Width.TheVariants as width
use Rattle.code_at.specs.Code.{Program}
use Rattle.jump_table.specs.declared.entries.Table.{Table}
use Rattle.jump_table.specs.Instructions.{Stands, compare, above}
use Rattle.jump_table.specs.Pattern.{IsPattern, compared, copied, bounded, short_table, long_table, IsJustBefore, EntersInside}
use Rattle.jump_table.proofs.StepLemmas.{one_step}
use Rattle.jump_table.proofs.FormLemmas.{compared_width}
use Rattle.jump_table.proofs.OrderLemmas.{one_before}

IsSole : Table → Type 0
IsSole table = (x z y : ℕ) → IsJustBefore table x y → IsJustBefore table z y → x ≡ z

enters_at : (s t : Table) (a b x : ℕ) → IsSole s → IsJustBefore s a x → IsJustBefore t b x → (a ≡ b → ⊥) → EntersInside s t
unfolding IsSole
enters_at s t a b x sole one two apart = record {
  from = b;
  inside = x;
  stands = (one.place, one.behind);
  enters = two;
  elsewhere =
      λ more. apart (sole a b x one more);
}

short_short : (a b c r base n f g h s root m : ℕ) → IsSole (short_table a b c r base n) → c ≡ h → (a ≡ f → ⊥)
    → EntersInside (short_table a b c r base n) (short_table f g h s root m)
short_short a b c r base n f g h s root m sole jumps firsts =
    elim (cases_eq b g) [
      | inr apart ↦ enters_at (short_table a b c r base n) (short_table f g h s root m) b g c sole
          (record { place = 1; before = refl; behind = refl })
          (record { place = 1; before = refl; behind = ap Some (sym jumps) }) apart
      | inl same ↦ enters_at (short_table a b c r base n) (short_table f g h s root m) a f b sole
          (record { place = 0; before = refl; behind = refl })
          (record { place = 0; before = refl; behind = ap Some (sym same) }) firsts
    ]

short_long : (a b c r base n f g h k s root m : ℕ) → IsSole (short_table a b c r base n) → c ≡ k → (a ≡ g → ⊥)
    → EntersInside (short_table a b c r base n) (long_table f g h k s root m)
short_long a b c r base n f g h k s root m sole jumps others =
    elim (cases_eq b h) [
      | inr apart ↦ enters_at (short_table a b c r base n) (long_table f g h k s root m) b h c sole
          (record { place = 1; before = refl; behind = refl })
          (record { place = 2; before = refl; behind = ap Some (sym jumps) }) apart
      | inl same ↦ enters_at (short_table a b c r base n) (long_table f g h k s root m) a g b sole
          (record { place = 0; before = refl; behind = refl })
          (record { place = 1; before = refl; behind = ap Some (sym same) }) others
    ]

long_short : (a b c e r base n f g h s root m : ℕ) → IsSole (long_table a b c e r base n) → e ≡ h → (b ≡ f → ⊥)
    → EntersInside (long_table a b c e r base n) (short_table f g h s root m)
long_short a b c e r base n f g h s root m sole jumps others =
    elim (cases_eq c g) [
      | inr apart ↦ enters_at (long_table a b c e r base n) (short_table f g h s root m) c g e sole
          (record { place = 2; before = refl; behind = refl })
          (record { place = 1; before = refl; behind = ap Some (sym jumps) }) apart
      | inl same ↦ enters_at (long_table a b c e r base n) (short_table f g h s root m) b f c sole
          (record { place = 1; before = refl; behind = refl })
          (record { place = 0; before = refl; behind = ap Some (sym same) }) others
    ]

long_long : (a b c e r base n f g h k s root m : ℕ) → IsSole (long_table a b c e r base n) → e ≡ k → (a ≡ f → ⊥)
    → EntersInside (long_table a b c e r base n) (long_table f g h k s root m)
long_long a b c e r base n f g h k s root m sole jumps firsts =
    elim (cases_eq c h) [
      | inr apart ↦ enters_at (long_table a b c e r base n) (long_table f g h k s root m) c h e sole
          (record { place = 2; before = refl; behind = refl })
          (record { place = 2; before = refl; behind = ap Some (sym jumps) }) apart
      | inl same ↦ elim (cases_eq b g) [
        | inr apart ↦ enters_at (long_table a b c e r base n) (long_table f g h k s root m) b g c sole
            (record { place = 1; before = refl; behind = refl })
            (record { place = 1; before = refl; behind = ap Some (sym same) }) apart
        | inl too ↦ enters_at (long_table a b c e r base n) (long_table f g h k s root m) a f b sole
            (record { place = 0; before = refl; behind = refl })
            (record { place = 0; before = refl; behind = ap Some (sym too) }) firsts
      ]
    ]

apart_by : (program : Program) (a g : ℕ) (i j : Instr) (b h : ℕ) → Stands program a i b → Stands program g j h → (i ≡ j → ⊥) → a ≡ g → ⊥
apart_by program a g i j b h one two differ same = differ (one_step program g i j b h (subst (λ x. Stands program x i b) same one) two).0

compare_above : (w : Width) (q n d : ℕ) → compare w q n ≡ above d → ⊥
compare_above w q n d same = cc

quad_long : (q n p m : ℕ) → compare width.Quad q n ≡ compare width.Long p m → ⊥
quad_long q n p m same = let widths = compared_width width.Quad width.Long q p n m same in cc

long_quad : (q n p m : ℕ) → compare width.Long q n ≡ compare width.Quad p m → ⊥
long_quad q n p m same = let widths = compared_width width.Long width.Quad q p n m same in cc

above_compare : (w : Width) (q n d : ℕ) → above d ≡ compare w q n → ⊥
above_compare w q n d same = cc

-- Of two patterns that begin apart and end with one jump, the second enters the first inside.
pub one_jump : (program : Program) (s t : Table) (d e : ℕ) → IsPattern program s d → IsPattern program t e → s.jump ≡ t.jump
    → (s.first ≡ t.first → ⊥) → EntersInside s t
unfolding IsSole
one_jump program s t d e (compared {a = a} {b = b} {c = c} {r = r} {n = n} {d = x} {base = base} first branches jumps)
    (compared {a = f} {b = g} {c = h} {r = p} {n = m} {base = root} other on out) same apart =
    short_short a b c r base n f g h p root m (one_before program (short_table a b c r base n) d (compared first branches jumps)) same apart
one_jump program s t d e (compared {a = a} {b = b} {c = c} {r = r} {n = n} {d = x} {base = base} first branches jumps)
    (copied {a = f} {b = g} {c = h} {e = k} {r = p} {n = m} {d = y} {base = root} narrow free other on copies out) same apart =
    short_long a b c r base n f g h k p root m (one_before program (short_table a b c r base n) d (compared first branches jumps)) same
    (apart_by program a g (compare width.Quad r n) (above y) b h first on (compare_above width.Quad r n y))
one_jump program s t d e (compared {a = a} {b = b} {c = c} {r = r} {n = n} {d = x} {base = base} first branches jumps)
    (bounded {a = f} {b = g} {c = h} {e = k} {r = p} {n = m} {base = root} sets other bounds on out) same apart =
    short_long a b c r base n f g h k p root m (one_before program (short_table a b c r base n) d (compared first branches jumps)) same
    (apart_by program a g (compare width.Quad r n) (compare width.Long p m) b h first bounds (quad_long r n p m))
one_jump program s t d e (copied {a = a} {b = b} {c = c} {e = z} {r = r} {n = n} {d = x} {base = base} narrow free first branches
    copies jumps)
    (compared {a = f} {b = g} {c = h} {r = p} {n = m} {base = root} other on out) same apart =
    long_short a b c z r base n f g h p root m (one_before program (long_table a b c z r base n) d
    (copied narrow free first branches copies jumps)) same
    (apart_by program b f (above x) (compare width.Quad p m) c g branches other (above_compare width.Quad p m x))
one_jump program s t d e (copied {a = a} {b = b} {c = c} {e = z} {r = r} {n = n} {base = base} narrow free first branches copies jumps)
    (copied {a = f} {b = g} {c = h} {e = k} {r = p} {n = m} {base = root} thin loose other on copies_on out) same apart =
    long_long a b c z r base n f g h k p root m (one_before program (long_table a b c z r base n) d
    (copied narrow free first branches copies jumps)) same apart
one_jump program s t d e (copied {a = a} {b = b} {c = c} {e = z} {r = r} {n = n} {base = base} narrow free first branches copies jumps)
    (bounded {a = f} {b = g} {c = h} {e = k} {r = p} {n = m} {base = root} sets other bounds on out) same apart =
    long_long a b c z r base n f g h k p root m (one_before program (long_table a b c z r base n) d
    (copied narrow free first branches copies jumps)) same apart
one_jump program s t d e (bounded {a = a} {b = b} {c = c} {e = z} {r = r} {n = n} {base = base} sets first bounds branches jumps)
    (compared {a = f} {b = g} {c = h} {r = p} {n = m} {base = root} other on out) same apart =
    long_short a b c z r base n f g h p root m (one_before program (long_table a b c z r base n) d
    (bounded sets first bounds branches jumps)) same
    (apart_by program b f (compare width.Long r n) (compare width.Quad p m) c g bounds other (long_quad r n p m))
one_jump program s t d e (bounded {a = a} {b = b} {c = c} {e = z} {r = r} {n = n} {base = base} sets first bounds branches jumps)
    (copied {a = f} {b = g} {c = h} {e = k} {r = p} {n = m} {base = root} narrow free other on copies out) same apart =
    long_long a b c z r base n f g h k p root m (one_before program (long_table a b c z r base n) d
    (bounded sets first bounds branches jumps)) same apart
one_jump program s t d e (bounded {a = a} {b = b} {c = c} {e = z} {r = r} {n = n} {base = base} sets first bounds branches jumps)
    (bounded {a = f} {b = g} {c = h} {e = k} {r = p} {n = m} {base = root} others other bounds_on on out) same apart =
    long_long a b c z r base n f g h k p root m (one_before program (long_table a b c z r base n) d
    (bounded sets first bounds branches jumps)) same apart
