-- The last fence before an access can be told, and so the place of the access at a door.
use Rattle.std.proofs.Common.{◌≡◌, ◌<◌, ◌≤◌, ◌+◌, ℕ, zero, suc, List, length, Option, Some, None, ◌⊎◌, inl, inr, refl, sym, ap, subst, ◌∙◌, arith}
use Rattle.std.specs.List.{slice_get}
use Rattle.std.proofs.lemmas.Bool.{cases_lt}
use Rattle.ev_graph.specs.declared.events.FenceItem.{FenceItem}
use Rattle.ev_graph.specs.declared.events.FenceKind.{FenceKind}
use Rattle.ev_graph.specs.declared.events.FenceKind.TheVariants as fence
use Rattle.ev_graph.specs.declared.events.Item.{Item}
use Rattle.ev_graph.specs.declared.events.Item.TheVariants as item
use Rattle.ev_graph.specs.Events.{accesses_before, LockedPairAt}
use Rattle.ev_graph.proofs.Numbers.{mono}
use Rattle.order_models.specs.declared.doors.Opening.{Opening}
use Rattle.order_models.specs.declared.doors.Opening.TheVariants as opening
use Rattle.order_models.specs.Doors.{Opens}
use Rattle.axiom_check.specs.Gates.{IsAt, IsFenceAt, IsLastBelow, IsWide}
use Rattle.axiom_check.proofs.GatesLemmas.{fence_between}

-- the kinds of fences by numbers
abbrev code_of : FenceKind → ℕ
code_of fence.Frm = 0
code_of fence.Fww = 1
code_of fence.Fsc = 2
code_of fence.Mfence = 3
code_of fence.DmbLd = 4
code_of fence.DmbSt = 5
code_of fence.DmbFull = 6

abbrev kind_of : ℕ → FenceKind
kind_of zero = fence.Frm
kind_of (suc zero) = fence.Fww
kind_of (suc (suc zero)) = fence.Fsc
kind_of (suc (suc (suc zero))) = fence.Mfence
kind_of (suc (suc (suc (suc zero)))) = fence.DmbLd
kind_of (suc (suc (suc (suc (suc zero))))) = fence.DmbSt
kind_of (suc (suc (suc (suc (suc (suc n)))))) = fence.DmbFull

kind_back : (kind : FenceKind) → kind_of (code_of kind) ≡ kind
kind_back fence.Frm = refl
kind_back fence.Fww = refl
kind_back fence.Fsc = refl
kind_back fence.Mfence = refl
kind_back fence.DmbLd = refl
kind_back fence.DmbSt = refl
kind_back fence.DmbFull = refl

-- two kinds are the same or not
same_kind : (one other : FenceKind) → (one ≡ other) ⊎ (one ≡ other → ⊥)
same_kind one other = elim (cases_lt (code_of one) (code_of other)) [
  | inl less ↦ inr (λ same. let codes = ap {B = ℕ} code_of same in omega arith)
  | inr le ↦ elim (cases_lt (code_of other) (code_of one)) [
    | inl more ↦ inr (λ same. let codes = ap {B = ℕ} code_of same in omega arith)
    | inr equal ↦ inl (let codes : code_of one ≡ code_of other = omega arith in
        let kinds = ap {B = FenceKind} kind_of codes in
        sym (kind_back one) ∙ (kinds ∙ kind_back other))
  ]
]

-- a fence of the kind stands at the place or not
fence_at : (kind : FenceKind) (items : List Item) (place : ℕ) → IsFenceAt kind items place ⊎ (IsFenceAt kind items place → ⊥)
fence_at kind items place = at (slice_get items place) refl where
  at : (found : Option Item) → slice_get items place ≡ found → IsFenceAt kind items place ⊎ (IsFenceAt kind items place → ⊥)
  at None is = inr (λ there. let here = there.here in absurd cc)
  at (Some (item.Fence f)) is = elim (same_kind f.kind kind) [
    | inl same ↦ inl (record { fence = f; here = is; same = same })
    | inr differ ↦ inr (λ there. differ (let here = there.here in let kind_is = there.same in let one : there.fence ≡ f = cc in let own = ap {B = FenceKind} (λ (g : FenceItem). g.kind) one in sym own ∙ kind_is))
  ]
  at (Some (item.Access a)) is = inr (λ there. let here = there.here in absurd cc)
  at (Some (item.Input v)) is = inr (λ there. let here = there.here in absurd cc)
  at (Some (item.Output v)) is = inr (λ there. let here = there.here in absurd cc)

-- the last fence of the kind below a place, of those behind at most n accesses
last_below : (kind : FenceKind) (items : List Item) (n below : ℕ) → (value : ℕ) × IsLastBelow kind items below n value
last_below kind items n zero = (0, record { there = λ some. absurd (omega arith); most = λ place less. absurd (omega arith) })
last_below kind items n (suc below) = let (value, before) = last_below kind items n below in next value before where
  passed : (value : ℕ) → IsLastBelow kind items below n value → (IsFenceAt kind items below → accesses_before items below ≤ n → ⊥) → IsLastBelow kind items (suc below) n value
  passed value before not = record {
    there = λ some. let (p, less, at, few, is) = before.there some in (p, (omega arith), at, few, is);
    most = λ p less at few. elim (cases_lt p below) [
      | inl earlier ↦ before.most p earlier at few
      | inr last ↦ absurd (let same : p ≡ below = omega arith in
          not (subst (λ (q : ℕ). IsFenceAt kind items q) same at) (subst (λ (q : ℕ). accesses_before items q ≤ n) same few))
    ];
  }

  next : (value : ℕ) → IsLastBelow kind items below n value → (other : ℕ) × IsLastBelow kind items (suc below) n other
  next value before = elim (fence_at kind items below) [
    | inl at ↦ elim (cases_lt n (accesses_before items below)) [
      | inl far ↦ (value, passed value before (λ there few. omega arith))
      | inr few ↦ (
        accesses_before items below + 1,
        record {
          there = λ some. (below, (omega arith), at, few, refl);
          most = λ p less there near. let order = mono items p below (omega arith) in omega arith;
        },
      )
    ]
    | inr not ↦ (value, passed value before (λ there few. not there))
  ]

-- where the opening holds, the later access has a place that the earlier one reaches, or the two are halves
pub reach : (o : Opening) (items : List Item) (m n : ℕ) → m < n → Opens o items m n
    → (IsWide o × ((place : ℕ) × IsAt o items n place × (m + 2 ≤ place))) ⊎ ((o ≡ opening.Pair) × LockedPairAt items m n)
reach opening.Always items m n less opens = inl (tt, (n + 1, refl, (omega arith)))
reach (opening.Fence kind) items m n less opens =
    let (value, last) = last_below kind items n (length items) in
    inl (tt, (value, last, (fence_between kind items m n value last).0 opens))
reach opening.Pair items m n less opens = inr (refl, opens)
