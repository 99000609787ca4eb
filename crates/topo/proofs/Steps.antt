-- The moves as steps: less is left to do after each.
use Rattle.std.proofs.Common.{◌≡◌, ◌≢◌, ◌<◌, ◌-◌, ℕ, suc, List, [], ◌∷◌, ◌++◌, length, Option, Some, ap, subst, ◌∙◌, arith, sum_by, get_or}
use Rattle.std.proofs.Math.ListN.{set}
use Rattle.std.specs.List.{slice_get}
use Rattle.std.specs.Option.{option_to_list}
use Rattle.std.proofs.lemmas.List.Sums.{sum_by-set}
use Rattle.std.proofs.lemmas.Option.{slice_get_within, get_or_from_slice_get}
use Rattle.topo.specs.declared.edge.Edge.{Edge}
use Rattle.topo.specs.declared.walk.Mark.{Mark}
use Rattle.topo.specs.declared.walk.Mark.TheVariants.{Open}
use Rattle.topo.specs.Order.{Leads}
use Rattle.topo.specs.Walk.{IsWalk, IsTop, LeadsToTop}

-- a sum falls where an element does
pub sum_by_falls : {A : Type 0} (f : A → ℕ) (xs : List A) (i : ℕ) (x y : A) → slice_get xs i ≡ Some x → f y < f x → sum_by f (set xs i y) < sum_by f xs
sum_by_falls f xs i x y here less =
    let read = get_or_from_slice_get xs i x x here in
    let e : f (get_or xs i x) ≡ f x = ap f read in
    let sums = sum_by-set f xs i y x (slice_get_within xs i x here) in
    omega arith

-- a pop takes the top of the stack
pub popped : (stack rest : List ℕ) (last : Option ℕ) (m v : ℕ) → m ≡ length stack → IsTop stack v → stack ≡ rest ++ option_to_list last
    → ((d : ℕ) → 0 < m → last ≡ Some (get_or stack (m - 1) d)) → stack ≡ rest ++ v ∷ []
popped stack rest last m v long top parts value =
    let size = top.last in
    let place : m - 1 ≡ top.below = omega arith in
    let read = get_or_from_slice_get stack top.below v v top.here in
    let moved : get_or stack (m - 1) v ≡ get_or stack top.below v = ap (λ (k : ℕ). get_or stack k v) place in
    let is : last ≡ Some v = value v (omega arith) ∙ ap (λ (x : ℕ). Some x) (moved ∙ read) in
    parts ∙ ap (λ (r : Option ℕ). rest ++ option_to_list r) is

-- the top of the stack is a number that has a cursor and a mark
pub top_open : (n : ℕ) (edges : List Edge) (cursors : List ℕ) (marks : List Mark) (stack done : List ℕ) (v : ℕ) → IsWalk n edges cursors marks stack done
    → IsTop stack v → slice_get marks v ≡ Some Open
top_open n edges cursors marks stack done v w top = w.open_marked top.below v top.here

pub top_below : (n : ℕ) (edges : List Edge) (cursors : List ℕ) (marks : List Mark) (stack done : List ℕ) (v : ℕ) → IsWalk n edges cursors marks stack done
    → IsTop stack v → v < n
top_below n edges cursors marks stack done v w top = let within = slice_get_within marks v Open (top_open n edges cursors marks stack done v w top) in let long = w.mark_each in omega arith

-- an empty stack has no top
pub no_top : (stack : List ℕ) (v : ℕ) → stack ≡ [] → IsTop stack v → ⊥
no_top stack v idle top = let long : length stack ≡ 0 = ap length idle in let some = top.last in omega arith

-- the edge at the cursor of the top leads to the top
pub leads_to_top : (n : ℕ) (edges : List Edge) (cursors : List ℕ) (marks : List Mark) (stack done : List ℕ) (v cursor : ℕ) (e : Edge) → IsWalk n edges cursors marks stack done
    → IsTop stack v → cursor ≢ 0 → slice_get cursors v ≡ Some cursor → slice_get edges (cursor - 1) ≡ Some e → LeadsToTop edges e.from stack
leads_to_top n edges cursors marks stack done v cursor e w top some here edge other is =
    let place : cursor ≡ suc (cursor - 1) = omega arith in
    let to_v : e.to ≡ v = (w.cursor v cursor here).leads (cursor - 1) e place edge in
    let one = top.last in
    let two = is.last in
    let same : top.below ≡ is.below = omega arith in
    let moved : slice_get stack top.below ≡ slice_get stack is.below = ap (slice_get stack) same in
    let first = top.here in
    let second = is.here in
    let to_other : e.to ≡ other = cc in
    subst (λ (x : ℕ). Leads edges e.from x) to_other (cursor - 1, edge)

-- an element that was read from a list, as the list and the element are called elsewhere
pub read_as : {A : Type 0} (xs ys : List A) (i : ℕ) (x y : A) → ys ≡ xs → slice_get ys i ≡ Some x → x ≡ y → slice_get xs i ≡ Some y
read_as {A} xs ys i x y same here is = let moved : slice_get ys i ≡ slice_get xs i = ap (λ (zs : List A). slice_get zs i) same in cc
