-- The rest of a pattern behind its first instruction, in each of the three forms.
use Rattle.std.proofs.Common.{◌≡◌, ◌≢◌, ℕ, Option, None, refl, sym, ap, subst}
use Rattle.x64_syntax.specs.declared.instr.Instr.{Instr}
use Rattle.x64_syntax.specs.declared.instr.Instr.TheVariants as instr
use Rattle.x64_syntax.specs.declared.operand.Operand.{Operand}
use Rattle.x64_syntax.specs.declared.operand.Operand.TheVariants as operand
use Rattle.x64_syntax.specs.declared.operand.Width.{Width}
use Rattle.x64_syntax.specs.declared.operand.Width.TheVariants as width
use Rattle.code_at.specs.Code.{Program, target_from}
use Rattle.jump_table.specs.declared.entries.Table.{Table}
use Rattle.jump_table.specs.declared.forms.Form.{Form}
use Rattle.jump_table.specs.declared.forms.Form.TheVariants as form
use Rattle.jump_table.specs.Instructions.{Stands, register, compare, copy, Sets}
use Rattle.jump_table.specs.Pattern.{Jumps, IsPattern, compared, copied, bounded, short_table, long_table, Begins, IsToldTable}
use Rattle.jump_table.specs.Steps.{GoesAbove, SetsAt, MayBegin}
use Rattle.jump_table.proofs.StepLemmas.{one_step, one_end}

number_in : Operand → ℕ
number_in (operand.Reg r) = r.number
number_in (operand.Imm n) = n
number_in (operand.Mem m) = 0

to_in : Instr → Operand
to_in (instr.Alu o w to from locked) = to
to_in i = operand.Imm 0

from_in : Instr → Operand
from_in (instr.Alu o w to from locked) = from
from_in i = operand.Imm 0

copied_in : Instr → Operand
copied_in (instr.Mov w to from) = to
copied_in (instr.MovZx w v to from) = to
copied_in i = operand.Imm 0

pub same_register : (r s : ℕ) → register r ≡ register s → r ≡ s
unfolding number_in
same_register r s same = ap number_in same

pub compared_width : (w v : Width) (q p n m : ℕ) → compare w q n ≡ compare v p m → w ≡ v
compared_width w v q p n m same = cc

pub compared_register : (w v : Width) (q p n m : ℕ) → compare w q n ≡ compare v p m → q ≡ p
unfolding number_in to_in
compared_register w v q p n m same = ap (λ i. number_in (to_in i)) same

pub compared_number : (w v : Width) (q p n m : ℕ) → compare w q n ≡ compare v p m → n ≡ m
unfolding number_in from_in
compared_number w v q p n m same = ap (λ i. number_in (from_in i)) same

-- a comparison sets no register
compare_sets : (w : Width) (q n r : ℕ) → Sets r (compare w q n) → ⊥
compare_sets w q n r sets = cc

pub sets_once : (i : Instr) (r s : ℕ) → Sets r i → Sets s i → r ≡ s
sets_once i r s one other = let same : register r ≡ register s = cc in same_register r s same

-- ---- cmp r, N in 64 bits

-- what stands behind the comparison
pub record RestCompared (program : Program) (second r n : ℕ) (table : Table) (target : ℕ) : Type 0 where
  pub jump : ℕ
  pub base : ℕ
  pub branches : GoesAbove program second jump
  pub jumps : Jumps program jump r n base
  pub table_is : table ≡ short_table table.first second jump r base n
  pub target_is : target ≡ target_from jump branches.displacement

compared_as : (program : Program) (b x r s n m : ℕ) (table : Table) (target : ℕ) → b ≡ x → r ≡ s → n ≡ m
    → RestCompared program x s m table target
    → RestCompared program b r n table target
compared_as program b x r s n m table target e f g rest =
    subst (λ y. RestCompared program y r n table target) (sym e)
    (subst (λ y. RestCompared program x y n table target) (sym f) (subst (λ y. RestCompared program x s y table target) (sym g) rest))

pub rest_compared : (program : Program) (b r n : ℕ) (table : Table) (target : ℕ) → IsPattern program table target
    → Stands program table.first (compare width.Quad r n) b
    → RestCompared program b r n table target
rest_compared program b r n table target (compared {a = a} {b = x} {c = c} {r = s} {n = m} {d = d} {base = base} first branches jumps)
    stands =
    let same = one_step program a (compare width.Quad r n) (compare width.Quad s m) b x stands first in
    compared_as program b x r s n m (short_table a x c s base m) (target_from c d) same.1
    (compared_register width.Quad width.Quad r s n m same.0) (compared_number width.Quad width.Quad r s n m same.0)
    (record {
      jump = c;
      base = base;
      branches = record { displacement = d; stands = branches };
      jumps = jumps;
      table_is = refl;
      target_is = refl;
    })
rest_compared program b r n table target (copied {a = a} {b = x} {q = q} {n = m} {w = w} narrow free first branches copies jumps) stands =
    absurd (narrow (sym (compared_width width.Quad w r q n m (one_step program a (compare width.Quad r n) (compare w q m) b x stands
    first).0)))
rest_compared program b r n table target (bounded {a = a} {b = x} {r = s} {i = i} sets first bounds branches jumps) stands =
    absurd (compare_sets width.Quad r n s (subst (Sets s) (sym (one_step program a (compare width.Quad r n) i b x stands first).0) sets))

pub begun_compared : (program : Program) (a b r n : ℕ) (w : Width) → w ≡ width.Quad → Stands program a (compare w r n) b
    → (table : Table) → (is : Begins program a table)
    → RestCompared program b r n table is.target
begun_compared program a b r n w wide stands table is =
    rest_compared program b r n table is.target is.pattern
    (subst (λ x. Stands program x (compare width.Quad r n) b) (sym is.at) (subst (λ v. Stands program a (compare v r n) b) wide stands))

pub begins_compared : (program : Program) (a b c r n base : ℕ) (w : Width) → w ≡ width.Quad → Stands program a (compare w r n) b
    → GoesAbove program b c → Jumps program c r n base
    → Begins program a (short_table a b c r base n)
begins_compared program a b c r n base w wide first branches jumps = record {
  at = refl;
  target = target_from c branches.displacement;
  pattern = compared (subst (λ v. Stands program a (compare v r n) b) wide first) branches.stands jumps;
}

-- ---- cmp q, N in fewer bits

-- what stands behind the comparison
pub record RestCopied (program : Program) (second : ℕ) (w : Width) (q n : ℕ) (table : Table) (target : ℕ) : Type 0 where
  pub third : ℕ
  pub r : ℕ
  pub jump : ℕ
  pub base : ℕ
  pub free : q ≢ 4
  pub branches : GoesAbove program second third
  pub copies : Stands program third (copy w r q) jump
  pub jumps : Jumps program jump r n base
  pub table_is : table ≡ long_table table.first second third jump r base n
  pub target_is : target ≡ target_from third branches.displacement

copied_as : (program : Program) (b x : ℕ) (w v : Width) (q p n m : ℕ) (table : Table) (target : ℕ) → b ≡ x → w ≡ v → q ≡ p → n ≡ m
    → RestCopied program x v p m table target
    → RestCopied program b w q n table target
copied_as program b x w v q p n m table target e f g h rest =
    subst (λ y. RestCopied program y w q n table target) (sym e) (subst (λ y. RestCopied program x y q n table target) (sym f)
    (subst (λ y. RestCopied program x v y n table target) (sym g) (subst (λ y. RestCopied program x v p y table target) (sym h) rest)))

pub rest_copied : (program : Program) (b : ℕ) (w : Width) (q n : ℕ) (table : Table) (target : ℕ) → w ≢ width.Quad
    → IsPattern program table target
    → Stands program table.first (compare w q n) b → RestCopied program b w q n table target
rest_copied program b w q n table target thin (compared {a = a} {b = x} {r = s} {n = m} first branches jumps) stands =
    absurd (thin (compared_width w width.Quad q s n m (one_step program a (compare w q n) (compare width.Quad s m) b x stands first).0))
rest_copied program b w q n table target thin (copied {a = a} {b = x} {c = c} {e = e} {q = p} {r = r} {n = m} {d = d} {base = base}
    {w = v} narrow free first branches copies jumps) stands =
    let same = one_step program a (compare w q n) (compare v p m) b x stands first in
    copied_as program b x w v q p n m (long_table a x c e r base m) (target_from c d) same.1 (compared_width w v q p n m same.0)
    (compared_register w v q p n m same.0) (compared_number w v q p n m same.0)
    (record {
      third = c;
      r = r;
      jump = e;
      base = base;
      free = free;
      branches = record { displacement = d; stands = branches };
      copies = copies;
      jumps = jumps;
      table_is = refl;
      target_is = refl;
    })
rest_copied program b w q n table target thin (bounded {a = a} {b = x} {r = s} {i = i} sets first bounds branches jumps) stands =
    absurd (compare_sets w q n s (subst (Sets s) (sym (one_step program a (compare w q n) i b x stands first).0) sets))

pub begun_copied : (program : Program) (a b : ℕ) (w : Width) (q n : ℕ) → w ≢ width.Quad → Stands program a (compare w q n) b
    → (table : Table) → (is : Begins program a table)
    → RestCopied program b w q n table is.target
begun_copied program a b w q n narrow stands table is =
    rest_copied program b w q n table is.target narrow is.pattern (subst (λ x. Stands program x (compare w q n) b) (sym is.at) stands)

-- the copy stands where the ja ends that was found
pub copied_copy : (program : Program) (b : ℕ) (w : Width) (q n : ℕ) (table : Table) (target : ℕ)
    → (rest : RestCopied program b w q n table target)
    → (c : ℕ) → GoesAbove program b c → Stands program c (copy w rest.r q) rest.jump
copied_copy program b w q n table target rest c branches =
    subst (λ x. Stands program x (copy w rest.r q) rest.jump) (one_end program b rest.third c rest.branches branches) rest.copies

pub same_copy : (w : Width) (r s q : ℕ) → copy w r q ≡ copy w s q → r ≡ s
unfolding number_in copied_in
same_copy width.Byte r s q same = ap (λ i. number_in (copied_in i)) same
same_copy width.Word r s q same = ap (λ i. number_in (copied_in i)) same
same_copy width.Long r s q same = ap (λ i. number_in (copied_in i)) same
same_copy width.Quad r s q same = ap (λ i. number_in (copied_in i)) same

-- and so does the jump behind the copy that was found
pub copied_base : (program : Program) (b : ℕ) (w : Width) (q n : ℕ) (table : Table) (target : ℕ)
    → (rest : RestCopied program b w q n table target)
    → (c : ℕ) → GoesAbove program b c → (r e : ℕ) → Stands program c (copy w r q) e → Jumps program e r n rest.base
copied_base program b w q n table target rest c branches r e copies =
    let same = one_step program c (copy w rest.r q) (copy w r q) rest.jump e
    (copied_copy program b w q n table target rest c branches) copies in
    subst (λ x. Jumps program x r n rest.base) same.1 (subst (λ x. Jumps program rest.jump x n rest.base)
    (same_copy w rest.r r q same.0) rest.jumps)

pub begins_copied : (program : Program) (a b c e : ℕ) (w : Width) (q r n base : ℕ) → w ≢ width.Quad → q ≢ 4
    → Stands program a (compare w q n) b → GoesAbove program b c
    → Stands program c (copy w r q) e → Jumps program e r n base → Begins program a (long_table a b c e r base n)
begins_copied program a b c e w q r n base narrow free first branches copies jumps = record {
  at = refl;
  target = target_from c branches.displacement;
  pattern = copied narrow free first branches.stands copies jumps;
}

-- ---- r set to 32 bits

-- what stands behind the instruction that sets it
pub record RestBounded (program : Program) (second r : ℕ) (table : Table) (target : ℕ) : Type 0 where
  pub n : ℕ
  pub third : ℕ
  pub jump : ℕ
  pub base : ℕ
  pub bounds : Stands program second (compare width.Long r n) third
  pub branches : GoesAbove program third jump
  pub jumps : Jumps program jump r n base
  pub table_is : table ≡ long_table table.first second third jump r base n
  pub target_is : target ≡ target_from jump branches.displacement

bounded_as : (program : Program) (b x r s : ℕ) (table : Table) (target : ℕ) → b ≡ x → r ≡ s → RestBounded program x s table target
    → RestBounded program b r table target
bounded_as program b x r s table target e f rest =
    subst (λ y. RestBounded program y r table target) (sym e) (subst (λ y. RestBounded program x y table target) (sym f) rest)

pub rest_bounded : (program : Program) (b r : ℕ) (i : Instr) (table : Table) (target : ℕ) → Sets r i
    → IsPattern program table target → Stands program table.first i b
    → RestBounded program b r table target
rest_bounded program b r i table target sets (compared {a = a} {b = x} {r = s} {n = m} first branches jumps) stands =
    absurd (compare_sets width.Quad s m r (subst (Sets r) (one_step program a i (compare width.Quad s m) b x stands first).0 sets))
rest_bounded program b r i table target sets (copied {a = a} {b = x} {q = q} {n = m} {w = w} narrow free first branches copies
    jumps) stands =
    absurd (compare_sets w q m r (subst (Sets r) (one_step program a i (compare w q m) b x stands first).0 sets))
rest_bounded program b r i table target sets (bounded {a = a} {b = x} {c = c} {e = e} {r = s} {n = m} {d = d} {base = base} {i = j}
    other first bounds branches jumps) stands =
    let same = one_step program a i j b x stands first in
    bounded_as program b x r s (long_table a x c e s base m) (target_from e d) same.1
    (sets_once i r s sets (subst (Sets s) (sym same.0) other))
    (record {
      n = m;
      third = c;
      jump = e;
      base = base;
      bounds = bounds;
      branches = record { displacement = d; stands = branches };
      jumps = jumps;
      table_is = refl;
      target_is = refl;
    })

pub begun_bounded : (program : Program) (a b r : ℕ) → SetsAt program a r b → (table : Table) → (is : Begins program a table)
    → RestBounded program b r table is.target
begun_bounded program a b r sets table is =
    rest_bounded program b r sets.instr table is.target sets.sets is.pattern
    (subst (λ x. Stands program x sets.instr b) (sym is.at) sets.stands)

-- the ja stands where the comparison ends that was found
pub bounded_branch : (program : Program) (b r : ℕ) (table : Table) (target : ℕ) → (rest : RestBounded program b r table target)
    → (n c : ℕ) → Stands program b (compare width.Long r n) c
    → GoesAbove program c rest.jump
bounded_branch program b r table target rest n c bounds =
    subst (λ x. GoesAbove program x rest.jump) (one_step program b (compare width.Long r rest.n) (compare width.Long r n) rest.third
    c rest.bounds bounds).1 rest.branches

-- and the jump where the ja ends
pub bounded_base : (program : Program) (b r : ℕ) (table : Table) (target : ℕ) → (rest : RestBounded program b r table target)
    → (n c : ℕ) → Stands program b (compare width.Long r n) c
    → (e : ℕ) → GoesAbove program c e → Jumps program e r n rest.base
bounded_base program b r table target rest n c bounds e branches =
    let same = one_step program b (compare width.Long r rest.n) (compare width.Long r n) rest.third c rest.bounds bounds in
    let ends = one_end program c rest.jump e (bounded_branch program b r table target rest n c bounds) branches in
    subst (λ x. Jumps program x r n rest.base) ends
    (subst (λ x. Jumps program rest.jump r x rest.base) (compared_number width.Long width.Long r r rest.n n same.0) rest.jumps)

pub begins_bounded : (program : Program) (a b c e r n base : ℕ) → SetsAt program a r b → Stands program b (compare width.Long r n) c
    → GoesAbove program c e → Jumps program e r n base
    → Begins program a (long_table a b c e r base n)
begins_bounded program a b c e r n base sets bounds branches jumps = record {
  at = refl;
  target = target_from e branches.displacement;
  pattern = bounded sets.sets sets.stands bounds branches.stands jumps;
}

-- ---- the first instruction

-- the first instruction of a pattern, and the form that it begins
pub record First (program : Program) (a : ℕ) : Type 0 where
  pub instr : Instr
  pub end : ℕ
  pub stands : Stands program a instr end
  pub form : Form
  pub begins : MayBegin instr form

first_of : (program : Program) (table : Table) (target : ℕ) → IsPattern program table target → First program table.first
first_of program table target (compared {b = b} {r = r} {n = n} first branches jumps) =
    record {
      instr = compare width.Quad r n;
      end = b;
      stands = first;
      form =
          form.Compared (record { width = width.Quad; register = r; bound = n });
      begins = (refl, refl);
    }
first_of program table target (copied {b = b} {q = q} {n = n} {w = w} narrow free first branches copies jumps) =
    record {
      instr = compare w q n;
      end = b;
      stands = first;
      form =
          form.Copied (record { width = w; register = q; bound = n });
      begins = (narrow, refl);
    }
first_of program table target (bounded {b = b} {r = r} {i = i} sets first bounds branches jumps) =
    record { instr = i; end = b; stands = first; form = form.Bounded r; begins = sets }

pub first_stands : (program : Program) (a : ℕ) (table : Table) → Begins program a table → First program a
first_stands program a table is = subst (First program) is.at (first_of program table is.target is.pattern)

pub told_none : (program : Program) (a : ℕ) (o : Option Table) → o ≡ None → ((table : Table) → Begins program a table → ⊥)
    → IsToldTable program a o
told_none program a o is none = subst (IsToldTable program a) (sym is) none
