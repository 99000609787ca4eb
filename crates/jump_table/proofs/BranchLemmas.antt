-- The ja of a pattern, which is its only conditional jump.
use Rattle.std.proofs.Common.{◌≡◌, ℕ, ℤ, zero, suc, [], ◌∷◌, Some, refl, ap, ◌∙◌, subst}
use Rattle.std.specs.List.{slice_get}
use Rattle.x64_syntax.specs.declared.instr.Instr.{Instr}
use Rattle.x64_syntax.specs.declared.instr.Instr.TheVariants as instr
use Rattle.x64_syntax.specs.declared.operand.Cond.{Cond}
use Rattle.x64_syntax.specs.declared.operand.Width.{Width}
use Rattle.x64_syntax.specs.declared.operand.Width.TheVariants as width
use Rattle.code_at.specs.Code.{Program, target_from}
use Rattle.ev_graph.specs.Places.{StandsIn}
use Rattle.jump_table.specs.declared.entries.Table.{Table}
use Rattle.jump_table.specs.Instructions.{Stands, compare, above, copy, jump_through, Sets}
use Rattle.jump_table.specs.Pattern.{IsPattern, compared, copied, bounded, inside_of, IsJustBefore}
use Rattle.jump_table.proofs.StepLemmas.{one_step}

-- a pattern's ja: where it stands and ends, and how far it leads
pub record Branch (program : Program) (table : Table) (target : ℕ) : Type 0 where
  pub address : ℕ
  pub end : ℕ
  pub displacement : ℕ
  pub inside : StandsIn (inside_of table) address
  pub next : IsJustBefore table address end
  pub stands : Stands program address (above displacement) end
  pub leads : target ≡ target_from end displacement

pub branch_of : (program : Program) (table : Table) (target : ℕ) → IsPattern program table target → Branch program table target
branch_of program table target (compared {b = b} {c = c} {d = d} first branches jumps) = record {
  address = b;
  end = c;
  displacement = d;
  inside = (0, refl);
  next = record { place = 1; before = refl; behind = refl };
  stands = branches;
  leads = refl;
}
branch_of program table target (copied {b = b} {c = c} {d = d} narrow free first branches copies jumps) = record {
  address = b;
  end = c;
  displacement = d;
  inside = (0, refl);
  next = record { place = 1; before = refl; behind = refl };
  stands = branches;
  leads = refl;
}
branch_of program table target (bounded {c = c} {e = e} {d = d} sets first bounds branches jumps) = record {
  address = c;
  end = e;
  displacement = d;
  inside = (1, refl);
  next = record { place = 2; before = refl; behind = refl };
  stands = branches;
  leads = refl;
}

copy_apart : (w : Width) (r q d : ℕ) (condition : Cond) → copy w r q ≡ instr.Jcc condition d → ⊥
copy_apart width.Byte r q d condition same = cc
copy_apart width.Word r q d condition same = cc
copy_apart width.Long r q d condition same = cc
copy_apart width.Quad r q d condition same = cc

sets_apart : (i : Instr) (r d : ℕ) (condition : Cond) → Sets r i → i ≡ instr.Jcc condition d → ⊥
sets_apart i r d condition sets same = let other : Sets r (instr.Jcc condition d) = subst (Sets r) same sets in cc

compare_apart : (w : Width) (q n d : ℕ) (condition : Cond) → compare w q n ≡ instr.Jcc condition d → ⊥
compare_apart w q n d condition same = cc

jump_apart : (r : ℕ) (o : ℤ) (d : ℕ) (condition : Cond) → jump_through r o ≡ instr.Jcc condition d → ⊥
jump_apart r o d condition same = cc

-- a conditional jump does not stand where another instruction does
not_here : (program : Program) (x y : ℕ) (i : Instr) (end : ℕ) (condition : Cond) (d ends : ℕ) → Stands program x i end → x ≡ y
    → (i ≡ instr.Jcc condition d → ⊥)
    → Stands program y (instr.Jcc condition d) ends → ⊥
not_here program x y i end condition d ends one same apart other =
    apart (one_step program y i (instr.Jcc condition d) end ends (subst (λ z. Stands program z i end) same one) other).0

leads_as : (program : Program) (x y displacement end : ℕ) (condition : Cond) (d ends : ℕ)
    → Stands program x (above displacement) end → x ≡ y
    → Stands program y (instr.Jcc condition d) ends → target_from end displacement ≡ target_from ends d
leads_as program x y displacement end condition d ends one same other =
    let both = one_step program y (above displacement) (instr.Jcc condition d) end ends
    (subst (λ z. Stands program z (above displacement) end) same one) other in
    let here : above displacement ≡ instr.Jcc condition d = both.0 in
    let far : displacement ≡ d = cc here in
    ap (λ z. target_from z displacement) both.1 ∙ ap (target_from ends) far

-- a conditional jump among a pattern's instructions leads to where the pattern's ja does
pub one_branch : (program : Program) (table : Table) (target : ℕ) → IsPattern program table target → (a : ℕ)
    → StandsIn (table.first ∷ inside_of table) a
    → (condition : Cond) (d end : ℕ) → Stands program a (instr.Jcc condition d) end → target ≡ target_from end d
one_branch program table target (compared {a = a} {b = b} {c = c} {r = r} {n = n} {d = d} first branches jumps) x at condition far
    end stands = by_place at.0 at.1
  where
    by_place : (place : ℕ) → slice_get (a ∷ b ∷ c ∷ []) place ≡ Some x → target_from c d ≡ target_from end far
    by_place zero here = absurd (not_here program a x (compare width.Quad r n) b condition far end first (cc)
        (compare_apart width.Quad r n far condition) stands)
    by_place (suc zero) here = leads_as program b x d c condition far end branches (cc) stands
    by_place (suc (suc zero)) here =
        absurd (not_here program c x (jump_through r jumps.offset) jumps.end condition far end jumps.stands (cc)
        (jump_apart r jumps.offset far condition) stands)
    by_place (suc (suc (suc k))) here = absurd cc
one_branch program table target (copied {a = a} {b = b} {c = c} {e = e} {q = q} {r = r} {n = n} {d = d} {w = w} narrow free first
    branches copies jumps) x at condition far end stands =
    by_place at.0 at.1
  where
    by_place : (place : ℕ) → slice_get (a ∷ b ∷ c ∷ e ∷ []) place ≡ Some x → target_from c d ≡ target_from end far
    by_place zero here = absurd (not_here program a x (compare w q n) b condition far end first (cc)
        (compare_apart w q n far condition) stands)
    by_place (suc zero) here = leads_as program b x d c condition far end branches (cc) stands
    by_place (suc (suc zero)) here = absurd (not_here program c x (copy w r q) e condition far end copies (cc)
        (copy_apart w r q far condition) stands)
    by_place (suc (suc (suc zero))) here =
        absurd (not_here program e x (jump_through r jumps.offset) jumps.end condition far end jumps.stands (cc)
        (jump_apart r jumps.offset far condition) stands)
    by_place (suc (suc (suc (suc k)))) here = absurd cc
one_branch program table target (bounded {a = a} {b = b} {c = c} {e = e} {r = r} {n = n} {d = d} {i = i} sets first bounds branches
    jumps) x at condition far end stands =
    by_place at.0 at.1
  where
    by_place : (place : ℕ) → slice_get (a ∷ b ∷ c ∷ e ∷ []) place ≡ Some x → target_from e d ≡ target_from end far
    by_place zero here = absurd (not_here program a x i b condition far end first (cc) (sets_apart i r far condition sets) stands)
    by_place (suc zero) here = absurd (not_here program b x (compare width.Long r n) c condition far end bounds (cc)
        (compare_apart width.Long r n far condition) stands)
    by_place (suc (suc zero)) here = leads_as program c x d e condition far end branches (cc) stands
    by_place (suc (suc (suc zero))) here =
        absurd (not_here program e x (jump_through r jumps.offset) jumps.end condition far end jumps.stands (cc)
        (jump_apart r jumps.offset far condition) stands)
    by_place (suc (suc (suc (suc k)))) here = absurd cc
