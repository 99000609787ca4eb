-- An address begins one pattern at most.
use Rattle.std.proofs.Common.{◌≡◌, ℕ, sym, ap, ◌∙◌, subst}
use Rattle.x64_syntax.specs.declared.operand.Width.TheVariants as width
use Rattle.code_at.specs.Code.{Program, target_from}
use Rattle.jump_table.specs.declared.entries.Table.{Table}
use Rattle.jump_table.specs.Instructions.{Stands, compare, above, copy}
use Rattle.jump_table.specs.Pattern.{Jumps, IsPattern, compared, copied, bounded, short_table, long_table}
use Rattle.jump_table.specs.Steps.{GoesAbove}
use Rattle.jump_table.proofs.StepLemmas.{one_step, one_end, one_displacement, same_base}
use Rattle.jump_table.proofs.FormLemmas.{compared_number, same_copy, rest_compared, rest_copied, rest_bounded}

-- an address begins one pattern at most, and its ja leads to one address
pub one_pattern : (program : Program) (s t : Table) (d e : ℕ) → IsPattern program s d → IsPattern program t e → s.first ≡ t.first
    → (s ≡ t) × (d ≡ e)
one_pattern program s t d e (compared {a = a} {b = b} {c = c} {r = r} {n = n} {d = x} {base = base} first branches jumps) other same =
    let rest = rest_compared program b r n t e other (subst (λ y. Stands program y (compare width.Quad r n) b) same first) in
    let ends : c ≡ rest.jump = one_end program b c rest.jump (record { displacement = x; stands = branches }) rest.branches in
    let bases : base ≡ rest.base = same_base program rest.jump r n base rest.base (subst (λ y. Jumps program y r n base) ends jumps)
    rest.jumps in
    let leads : x ≡ rest.branches.displacement = one_displacement program b c rest.jump x rest.branches.displacement branches
    rest.branches.stands in (
      ap (λ y. short_table y b c r base n) same ∙ ap (λ y. short_table t.first b y r base n) ends
          ∙ ap (λ y. short_table t.first b rest.jump r y n) bases ∙ sym rest.table_is,
      ap (λ y. target_from y x) ends ∙ ap (target_from rest.jump) leads ∙ sym rest.target_is,
    )
one_pattern program s t d e (copied {a = a} {b = b} {c = c} {e = z} {q = q} {r = r} {n = n} {d = x} {base = base} {w = w} narrow
    free first branches copies jumps) other same =
    let rest = rest_copied program b w q n t e narrow other (subst (λ y. Stands program y (compare w q n) b) same first) in
    let ends : c ≡ rest.third = one_end program b c rest.third (record { displacement = x; stands = branches }) rest.branches in
    let leads : x ≡ rest.branches.displacement = one_displacement program b c rest.third x rest.branches.displacement branches
    rest.branches.stands in
    let copy_same = one_step program rest.third (copy w r q) (copy w rest.r q) z rest.jump
    (subst (λ y. Stands program y (copy w r q) z) ends copies) rest.copies in
    let indices : r ≡ rest.r = same_copy w r rest.r q copy_same.0 in
    let jumped : Jumps program rest.jump rest.r n base =
    subst (λ y. Jumps program y rest.r n base) copy_same.1 (subst (λ y. Jumps program z y n base) indices jumps) in
    let bases : base ≡ rest.base = same_base program rest.jump rest.r n base rest.base jumped rest.jumps in (
      ap (λ y. long_table y b c z r base n) same ∙ ap (λ y. long_table t.first b y z r base n) ends
          ∙ ap (λ y. long_table t.first b rest.third y r base n) copy_same.1
          ∙ ap (λ y. long_table t.first b rest.third rest.jump y base n) indices
          ∙ ap (λ y. long_table t.first b rest.third rest.jump rest.r y n) bases ∙ sym rest.table_is,
      ap (λ y. target_from y x) ends ∙ ap (target_from rest.third) leads ∙ sym rest.target_is,
    )
one_pattern program s t d e (bounded {a = a} {b = b} {c = c} {e = z} {r = r} {n = n} {d = x} {base = base} {i = i} sets first bounds
    branches jumps) other same =
    let rest = rest_bounded program b r i t e sets other (subst (λ y. Stands program y i b) same first) in
    let bound_same = one_step program b (compare width.Long r n) (compare width.Long r rest.n) c rest.third bounds rest.bounds in
    let numbers : n ≡ rest.n = compared_number width.Long width.Long r r n rest.n bound_same.0 in
    let mine : GoesAbove program rest.third z = subst (λ y. GoesAbove program y z) bound_same.1
    (record { displacement = x; stands = branches }) in
    let ends : z ≡ rest.jump = one_end program rest.third z rest.jump mine rest.branches in
    let leads : x ≡ rest.branches.displacement =
    one_displacement program rest.third z rest.jump x rest.branches.displacement
    (subst (λ y. Stands program y (above x) z) bound_same.1 branches) rest.branches.stands in
    let jumped : Jumps program rest.jump r rest.n base =
    subst (λ y. Jumps program y r rest.n base) ends (subst (λ y. Jumps program z r y base) numbers jumps) in
    let bases : base ≡ rest.base = same_base program rest.jump r rest.n base rest.base jumped rest.jumps in (
      ap (λ y. long_table y b c z r base n) same ∙ ap (λ y. long_table t.first b y z r base n) bound_same.1
          ∙ ap (λ y. long_table t.first b rest.third y r base n) ends
          ∙ ap (λ y. long_table t.first b rest.third rest.jump r y n) bases
          ∙ ap (λ y. long_table t.first b rest.third rest.jump r rest.base y) numbers ∙ sym rest.table_is,
      ap (λ y. target_from y x) ends ∙ ap (target_from rest.jump) leads ∙ sym rest.target_is,
    )
