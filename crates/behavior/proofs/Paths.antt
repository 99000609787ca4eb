-- Paths through two trees, one behind the other.
use Rattle.std.proofs.Common.{◌≡◌, ℕ, suc, ◌+◌, ◌<◌, List, ◌++◌, refl, sym, ap, ◌∙◌, subst, arith, append_assoc}
use mathlib.Core.Path.{fun_ext}
use Rattle.ev_graph.specs.declared.events.Item.{Item}
use Rattle.ev_graph.specs.declared.events.End.{End}
use Rattle.behavior.specs.Tree.{Tree, Gives, Begins, Acts, Point, Cut, At, Path, cut, gives, begins, acts, Next, Goes, Stops, ◌then◌}

-- a path's items and count under other names
pub path_at : {R : Type 0} {t : Tree R} {p : Point R} (xs ys : List Item) (n m : ℕ) → xs ≡ ys → n ≡ m → Path t xs p n → Path t ys p m
path_at {R} {t} {p} xs ys n m same_items same_count path =
    subst (λ k. Path t ys p k) same_count (subst (λ l. Path t l p n) same_items path)

pub then-assoc : {S T U : Type 0} (t : Tree (Next S)) (f : S → Tree (Next T)) (g : T → Tree (Next U)) → ((t then f) then g) ≡ (t then (λ s. f s then g))
then-assoc (Gives (Goes s)) f g = refl
then-assoc (Gives (Stops end)) f g = refl
then-assoc (Begins t) f g = ap Begins (then-assoc t f g)
then-assoc (Acts range made next) f g = ap (Acts range made) (fun_ext (λ v. then-assoc (next v) f g))

-- a path that is cut in the first tree
pub path_cut : {S T : Type 0} (f : S → Tree (Next T)) {t : Tree (Next S)} {xs : List Item} {n : ℕ} → Path t xs Cut n → Path (t then f) xs Cut n
path_cut f cut = cut
path_cut f (begins path) = begins (path_cut f path)
path_cut f (acts value lt path) = acts value lt (path_cut f path)

-- a path on which the first tree ends the thread
pub path_stop : {S T : Type 0} (f : S → Tree (Next T)) {end : End} {t : Tree (Next S)} {xs : List Item} {n : ℕ} → Path t xs (At (Stops end)) n → Path (t then f) xs (At (Stops end)) n
path_stop f gives = gives
path_stop f (begins path) = begins (path_stop f path)
path_stop f (acts value lt path) = acts value lt (path_stop f path)

-- a path through the first tree, and then one in the second
pub path_then : {S T : Type 0} (f : S → Tree (Next T)) {s : S} {p : Point (Next T)} {t : Tree (Next S)} {xs ys : List Item} {n m : ℕ}
    → Path t xs (At (Goes s)) n → Path (f s) ys p m → Path (t then f) (xs ++ ys) p (n + m)
path_then f {ys = ys} {m = m} gives more = path_at ys ys m (0 + m) refl (omega arith) more
path_then f {m = m} (begins {n = n} path) more = path_at _ _ (suc (n + m)) (suc n + m) refl (omega arith) (begins (path_then f path more))
path_then f {ys = ys} (acts {made = made} {items = xs} value lt path) more =
    path_at _ _ _ _ (sym (append_assoc (made value) xs ys)) refl (acts value lt (path_then f path more))

-- how a path through two trees, one behind the other, comes about
pub data Split {S T : Type 0} (t : Tree (Next S)) (f : S → Tree (Next T)) : List Item → Point (Next T) → ℕ → Type 0 where
  within : {xs : List Item} {n : ℕ} → Path t xs Cut n → Split t f xs Cut n
  ended : {end : End} {xs : List Item} {n : ℕ} → Path t xs (At (Stops end)) n → Split t f xs (At (Stops end)) n
  beyond : {s : S} {p : Point (Next T)} {xs ys all : List Item} {n m total : ℕ}
      → Path t xs (At (Goes s)) n → Path (f s) ys p m → all ≡ xs ++ ys → total ≡ n + m → Split t f all p total

split_begins : {S T : Type 0} {t : Tree (Next S)} {f : S → Tree (Next T)} {p : Point (Next T)} {all : List Item} {total : ℕ} → Split t f all p total → Split (Begins t) f all p (suc total)
split_begins (within path) = within (begins path)
split_begins (ended path) = ended (begins path)
split_begins (beyond {n = n} {m = m} path more same_items same_count) = beyond (begins path) more same_items (omega (arith, same_count))

split_acts : {S T : Type 0} {range : ℕ} {made : ℕ → List Item} {next : ℕ → Tree (Next S)} {f : S → Tree (Next T)} {p : Point (Next T)} {all : List Item} {total : ℕ}
    (value : ℕ) → value < range → Split (next value) f all p total → Split (Acts range made next) f (made value ++ all) p total
split_acts value lt (within path) = within (acts value lt path)
split_acts value lt (ended path) = ended (acts value lt path)
split_acts {made = made} value lt (beyond {xs = xs} {ys = ys} path more same_items same_count) =
    beyond (acts value lt path) more (ap (λ l. made value ++ l) same_items ∙ sym (append_assoc (made value) xs ys)) same_count

pub split : {S T : Type 0} (t : Tree (Next S)) (f : S → Tree (Next T)) {p : Point (Next T)} {all : List Item} {total : ℕ} → Path (t then f) all p total → Split t f all p total
split (Gives (Goes s)) f {total = total} path = beyond gives path refl (omega arith)
split (Gives (Stops end)) f cut = within cut
split (Gives (Stops end)) f gives = ended gives
split (Begins t) f cut = within cut
split (Begins t) f (begins path) = split_begins (split t f path)
split (Acts range made next) f cut = within cut
split (Acts range made next) f (acts value lt path) = split_acts value lt (split (next value) f path)
