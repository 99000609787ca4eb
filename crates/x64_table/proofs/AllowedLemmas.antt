-- Rows make only items that are allowed.
use Rattle.std.proofs.Common.{◌≡◌, ℕ, ◌^◌, ◌%◌, ◌<◌, ◌&&◌, Bool, true, false, List, ◌∷◌, Option, Some, None, refl}
use Rattle.std.specs.List.{AllByRecursion}
use Rattle.std.proofs.lemmas.Nat.{mod_below}
use Rattle.ev_graph.specs.declared.events.AccessKind.TheVariants as kinds
use Rattle.ev_graph.specs.declared.events.Item.{Item}
use Rattle.behavior.specs.Acts.{Permission, access, locked_write}
use Rattle.behavior.proofs.Makes.{AllMakes}
use Rattle.x64_syntax.specs.declared.slots.SlotKind.{SlotKind}
use Rattle.x64_table.specs.Rows.{Row}
use Rattle.x64_table.specs.Laws.{IsAllowed, RowsAreAllowed}
use Rattle.x64_table.proofs.Shapes.{Shape, ends, still, fence, read, write, change, lock, call-in, call-out, jump-in, jump-out, row_shape}
use Rattle.x64_table.proofs.ShapeLemmas.{when, positive}
use Rattle.x64_table.proofs.WantsLemmas.{path_items}

-- where an access is allowed its items are, and where it is not there is none
when_allowed : (P : Item → Type 0) (b : Bool) (row : Row) → (b ≡ true → AllMakes P row) → AllMakes P (when b row)
when_allowed P true row here = here refl
when_allowed P false row here = tt

both : (a b : Bool) → (a && b) ≡ true → (a ≡ true) × (b ≡ true)
both true b here = (refl, here)
both false b here = absurd cc

module _ (may : Permission) (place : ℕ) where
  read_allowed : (address size v : ℕ) → v < 256 ^ size → may false address size ≡ true → IsAllowed may place (access kinds.Read false place address size v)
  read_allowed address size v fits here = (refl, fits, here, (λ locked. absurd cc))

  write_allowed : (address size v : ℕ) → may true address size ≡ true → IsAllowed may place (access kinds.Write false place address size (v % 256 ^ size))
  write_allowed address size v here = (refl, mod_below v (256 ^ size) (positive size), here, (λ locked. absurd cc))

  lock_allowed : (address size v : ℕ) (written : Option ℕ) → v < 256 ^ size → (may false address size && may true address size) ≡ true
      → AllByRecursion (IsAllowed may place) (access kinds.Read true place address size v ∷ locked_write place address size written)
  lock_allowed address size v None fits here = ((refl, fits, (both (may false address size) (may true address size) here).0, (λ locked. here)), tt)
  lock_allowed address size v (Some w) fits here =
      let each = both (may false address size) (may true address size) here in
      ((refl, fits, each.0, (λ locked. here)), ((refl, mod_below w (256 ^ size) (positive size), each.1, (λ locked. here)), tt))

shape_allowed : {may : Permission} {place : ℕ} {row : Row} {slots : List SlotKind} {fenced : Bool} → Shape may place row slots fenced → AllMakes (IsAllowed may place) row
shape_allowed ends = tt
shape_allowed still = tt
shape_allowed fence = λ v lt. ((refl, tt), tt)
shape_allowed {may} {place} (read address size next) =
    when_allowed (IsAllowed may place) (may false address size) _ (λ here v lt. ((read_allowed may place address size v lt here, tt), tt))
shape_allowed {may} {place} (write address size value exit) =
    when_allowed (IsAllowed may place) (may true address size) _ (λ here v lt. ((write_allowed may place address size value here, tt), tt))
shape_allowed {may} {place} (change address size address' size' value exit) =
    when_allowed (IsAllowed may place) (may false address size) _ (λ here v lt. (
      (read_allowed may place address size v lt here, tt),
      when_allowed (IsAllowed may place) (may true address' size') _ (λ there u less. ((write_allowed may place address' size' (value v) there, tt), tt)),
    ))
shape_allowed {may} {place} (lock address size new exit) =
    when_allowed (IsAllowed may place) (may false address size && may true address size) _ (λ here v lt. (lock_allowed may place address size v (new v) lt here, tt))
shape_allowed {may} {place} (call-in address size value exit) =
    when_allowed (IsAllowed may place) (may true address size) _ (λ here v lt. ((write_allowed may place address size value here, tt), (λ u less. (((refl, less), tt), tt))))
shape_allowed {may} {place} (call-out address size value output exit) =
    when_allowed (IsAllowed may place) (may true address size) _ (λ here v lt. ((write_allowed may place address size value here, tt), (λ u less. ((refl, tt), tt))))
shape_allowed {may} {place} (jump-in address size exit) = λ v lt. (
  ((refl, lt), tt),
  when_allowed (IsAllowed may place) (may false address size) _ (λ here w less. ((read_allowed may place address size w less here, tt), tt)),
)
shape_allowed {may} {place} (jump-out address size output exit) = λ v lt. (
  (refl, tt),
  when_allowed (IsAllowed may place) (may false address size) _ (λ here w less. ((read_allowed may place address size w less here, tt), tt)),
)

pub rows_allowed : RowsAreAllowed
rows_allowed may i length f s formed made p n path = path_items (IsAllowed may s.at) (shape_allowed (row_shape may i length f s formed)) path
