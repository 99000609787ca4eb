-- The run that explains another: it has the same trace, and where there is one there is one with the fewest items.
use Rattle.std.proofs.Common.{◌≡◌, ◌≢◌, ℕ, zero, suc, ◌<◌, ◌≤◌, List, [], ◌∷◌, ◌++◌, length, refl, sym, ap, ◌∙◌, subst, arith, append_assoc, length-append}
use Rattle.std.proofs.lemmas.List.{append_cancel_left}
use Rattle.ev_graph.specs.declared.events.Item.{Item}
use Rattle.ev_graph.specs.declared.events.End.{End}
use Rattle.ev_graph.specs.declared.events.End.TheVariants.{Running, Halted, Trap}
use Rattle.behavior.specs.Tree.{Tree, Gives, Begins, Acts, Next, Goes}
use Rattle.behavior.specs.Run.{Run}
use Rattle.behavior.specs.Seen.{trace, given, counted}
use Rattle.behavior.specs.Kept.{Backward, BackwardBy}
use Rattle.behavior.specs.Explained.{Explains, IsOpen}
use Rattle.behavior.proofs.SeenLemmas.{IsCoarser, trace-append, given-append, counted-append, given-trace, counted-trace, trace-none}
use Rattle.behavior.proofs.Walks.{Walk, ends-cut, ends-stop, walks-on, walks-begin, walks-act, run_walk, walk_run}

-- what is behind equal values is equal
behind_given : (x xs ys : List Item) → given (x ++ xs) ≡ given (x ++ ys) → given xs ≡ given ys
behind_given x xs ys same = append_cancel_left (given x) (given xs) (given ys) (sym (given-append x xs) ∙ same ∙ given-append x ys)

behind_counted : (x xs ys : List Item) → counted (x ++ xs) ≡ counted (x ++ ys) → counted xs ≡ counted ys
behind_counted x xs ys same = omega (arith, same, counted-append x xs, counted-append x ys)

behind_length : (x xs ys : List Item) → length (x ++ xs) ≡ length (x ++ ys) → length xs ≡ length ys
behind_length x xs ys same = omega (arith, same, length-append x xs, length-append x ys)

front_given : (x xs ys : List Item) → given xs ≡ given ys → given (x ++ xs) ≡ given (x ++ ys)
front_given x xs ys same = given-append x xs ∙ ap (λ l. given x ++ l) same ∙ sym (given-append x ys)

front_counted : (x xs ys : List Item) → counted xs ≡ counted ys → counted (x ++ xs) ≡ counted (x ++ ys)
front_counted x xs ys same = omega (arith, same, counted-append x xs, counted-append x ys)

-- where nothing counts, nothing was given
given_none : (xs : List Item) → counted xs ≡ 0 → given xs ≡ []
given_none xs none = sym (given-trace xs) ∙ ap given (trace-none xs none)

empty : (xs : List Item) → length xs ≡ 0 → xs ≡ []
empty [] none = refl
empty (x ∷ xs) none = absurd (omega (arith, none))

-- the values and the count are those of the trace
same_given : (xs ys : List Item) → trace xs ≡ trace ys → given xs ≡ given ys
same_given xs ys same = sym (given-trace xs) ∙ ap given same ∙ given-trace ys

same_counted : (xs ys : List Item) → trace xs ≡ trace ys → counted xs ≡ counted ys
same_counted xs ys same = sym (counted-trace xs) ∙ ap counted same ∙ counted-trace ys

-- an act was made by the same value, where the values of what was made and of what comes behind it are the same
same_value : (made : ℕ → List Item) (v w range : ℕ) (xs ys : List Item)
    → ((v w : ℕ) → v < range → w < range → (x y : List ℕ) → given (made v) ++ x ≡ given (made w) ++ y → v ≡ w)
    → v < range → w < range → given (made v ++ xs) ≡ given (made w ++ ys) → v ≡ w
same_value made v w range xs ys decided lt lt' same =
    decided v w lt lt' (given xs) (given ys) (sym (given-append (made v) xs) ∙ same ∙ given-append (made w) ys)

module _ {S : Type 0} (step : S → Tree (Next S)) (open_steps : (s : S) → IsOpen (step s)) where
  -- two walks on the same values, of as many accesses, inputs and outputs, have one trace
  same_trace-walks : {t : Tree (Next S)} → IsOpen t → {xs ys : List Item} {end end' : End} {n m : ℕ} → Walk step t xs end n → Walk step t ys end' m
      → given xs ≡ given ys → counted xs ≡ counted ys → trace xs ≡ trace ys
  same_trace-walks decided {ys = ys} ends-cut other values many = sym (trace-none ys (sym many))
  same_trace-walks decided {xs = xs} walk ends-cut values many = trace-none xs many
  same_trace-walks decided ends-stop ends-stop values many = refl
  same_trace-walks decided (walks-on {s = s} walk) (walks-on other) values many = same_trace-walks (open_steps s) walk other values many
  same_trace-walks decided (walks-begin walk) (walks-begin other) values many = same_trace-walks decided walk other values many
  same_trace-walks decided (walks-act {made = made} {next = next} {items = xs} v lt walk) (walks-act {items = ys} {end = end'} {n = m} w lt' other) values many =
      let e = same_value made v w _ xs ys decided.0 lt lt' values in
      let other' = subst (λ k. Walk step (next k) ys end' m) (sym e) other in
      let values' = subst (λ k. given (made v ++ xs) ≡ given (made k ++ ys)) (sym e) values in
      let many' = subst (λ k. counted (made v ++ xs) ≡ counted (made k ++ ys)) (sym e) many in
      let rest = same_trace-walks (decided.1 v) walk other' (behind_given (made v) xs ys values') (behind_counted (made v) xs ys many') in
      let all = trace-append (made v) xs ∙ ap (λ l. trace (made v) ++ l) rest ∙ sym (trace-append (made v) ys) in
      subst (λ k. trace (made v ++ xs) ≡ trace (made k ++ ys)) e all

  -- two walks on the same values, of the same length, have the same items
  same_items-long : {t : Tree (Next S)} → IsOpen t → {xs ys : List Item} {end end' : End} {n m : ℕ} → Walk step t xs end n → Walk step t ys end' m
      → given xs ≡ given ys → length xs ≡ length ys → xs ≡ ys
  same_items-long decided {ys = ys} ends-cut other values long = sym (empty ys (sym long))
  same_items-long decided {xs = xs} walk ends-cut values long = empty xs long
  same_items-long decided ends-stop ends-stop values long = refl
  same_items-long decided (walks-on {s = s} walk) (walks-on other) values long = same_items-long (open_steps s) walk other values long
  same_items-long decided (walks-begin walk) (walks-begin other) values long = same_items-long decided walk other values long
  same_items-long decided (walks-act {made = made} {next = next} {items = xs} v lt walk) (walks-act {items = ys} {end = end'} {n = m} w lt' other) values long =
      let e = same_value made v w _ xs ys decided.0 lt lt' values in
      let other' = subst (λ k. Walk step (next k) ys end' m) (sym e) other in
      let values' = subst (λ k. given (made v ++ xs) ≡ given (made k ++ ys)) (sym e) values in
      let long' : length xs ≡ length ys = behind_length (made v) xs ys (subst (λ k. length (made v ++ xs) ≡ length (made k ++ ys)) (sym e) long) in
      let rest = same_items-long (decided.1 v) walk other' (behind_given (made v) xs ys values') long' in
      ap (λ l. made v ++ l) rest ∙ ap (λ k. made k ++ ys) e

  -- two walks on the same values that have both come to the same end have the same items
  same_items-ended : {t : Tree (Next S)} → IsOpen t → {xs ys : List Item} {end end' : End} {n m : ℕ} → end ≢ Running → end' ≢ Running → Walk step t xs end n → Walk step t ys end' m
      → given xs ≡ given ys → xs ≡ ys
  same_items-ended decided ended ended' ends-cut other values = absurd (ended refl)
  same_items-ended decided ended ended' walk ends-cut values = absurd (ended' refl)
  same_items-ended decided ended ended' ends-stop ends-stop values = refl
  same_items-ended decided ended ended' (walks-on {s = s} walk) (walks-on other) values = same_items-ended (open_steps s) ended ended' walk other values
  same_items-ended decided ended ended' (walks-begin walk) (walks-begin other) values = same_items-ended decided ended ended' walk other values
  same_items-ended decided ended ended' (walks-act {made = made} {next = next} {items = xs} v lt walk) (walks-act {items = ys} {end = end'} {n = m} w lt' other) values =
      let e = same_value made v w _ xs ys decided.0 lt lt' values in
      let other' = subst (λ k. Walk step (next k) ys end' m) (sym e) other in
      let values' = subst (λ k. given (made v ++ xs) ≡ given (made k ++ ys)) (sym e) values in
      let rest = same_items-ended (decided.1 v) ended ended' walk other' (behind_given (made v) xs ys values') in
      ap (λ l. made v ++ l) rest ∙ ap (λ k. made k ++ ys) e

  -- of two walks on the same values the longer one goes on where the shorter one ends
  prefix-walks : {t : Tree (Next S)} → IsOpen t → {xs ys : List Item} {end end' : End} {n m : ℕ} → Walk step t xs end n → Walk step t ys end' m
      → given xs ≡ given ys → length xs ≤ length ys → (rest : List Item) × (ys ≡ xs ++ rest)
  prefix-walks decided {ys = ys} ends-cut other values long = (ys, refl)
  prefix-walks decided {xs = xs} walk ends-cut values long = ([], sym (ap (λ l. l ++ []) (empty xs (omega (arith, long)))))
  prefix-walks decided ends-stop ends-stop values long = ([], refl)
  prefix-walks decided (walks-on {s = s} walk) (walks-on other) values long = prefix-walks (open_steps s) walk other values long
  prefix-walks decided (walks-begin walk) (walks-begin other) values long = prefix-walks decided walk other values long
  prefix-walks decided (walks-act {made = made} {next = next} {items = xs} v lt walk) (walks-act {items = ys} {end = end'} {n = m} w lt' other) values long =
      let e = same_value made v w _ xs ys decided.0 lt lt' values in
      let other' = subst (λ k. Walk step (next k) ys end' m) (sym e) other in
      let values' = subst (λ k. given (made v ++ xs) ≡ given (made k ++ ys)) (sym e) values in
      let long' = subst (λ k. length (made v ++ xs) ≤ length (made k ++ ys)) (sym e) long in
      let shorter : length xs ≤ length ys = omega (arith, long', length-append (made v) xs, length-append (made v) ys) in
      let rest = prefix-walks (decided.1 v) walk other' (behind_given (made v) xs ys values') shorter in
      (rest.0, ap (λ k. made k ++ ys) (sym e) ∙ ap (λ l. made v ++ l) rest.1 ∙ sym (append_assoc (made v) xs rest.0))

  -- the shortest walk that is cut, on the same values and of as many accesses, inputs and outputs
  abbrev Least : Tree (Next S) → List Item → Type 0
  Least t xs = (least : List Item) × (n : ℕ) × Walk step t least Running n × (given least ≡ given xs) × (counted least ≡ counted xs)
      × ((other : List Item) (m : ℕ) → Walk step t other Running m → given other ≡ given xs → counted other ≡ counted xs → length least ≤ length other)

  least_on : (s : S) (xs : List Item) (c : ℕ) → counted xs ≡ suc c → Least (step s) xs → Least (Gives (Goes s)) xs
  least_on s xs c some (least, n, walk, values, many, fewest) = (least, n, walks-on walk, values, many, no_more)
    where
      no_more : (other : List Item) (m : ℕ) → Walk step (Gives (Goes s)) other Running m → given other ≡ given xs → counted other ≡ counted xs → length least ≤ length other
      no_more other m ends-cut values' many' = absurd (omega (arith, some, many'))
      no_more other m (walks-on more) values' many' = fewest other m more values' many'

  least_begin : (t : Tree (Next S)) (xs : List Item) (c : ℕ) → counted xs ≡ suc c → Least t xs → Least (Begins t) xs
  least_begin t xs c some (least, n, walk, values, many, fewest) = (least, suc n, walks-begin walk, values, many, no_more)
    where
      no_more : (other : List Item) (m : ℕ) → Walk step (Begins t) other Running m → given other ≡ given xs → counted other ≡ counted xs → length least ≤ length other
      no_more other m ends-cut values' many' = absurd (omega (arith, some, many'))
      no_more other m (walks-begin {n = k} more) values' many' = fewest other k more values' many'

  least_act : (range : ℕ) (made : ℕ → List Item) (next : ℕ → Tree (Next S)) (v : ℕ) (xs : List Item) (c : ℕ)
      → ((v w : ℕ) → v < range → w < range → (x y : List ℕ) → given (made v) ++ x ≡ given (made w) ++ y → v ≡ w)
      → v < range → counted (made v ++ xs) ≡ suc c → Least (next v) xs → Least (Acts range made next) (made v ++ xs)
  least_act range made next v xs c decided lt some (least, n, walk, values, many, fewest) =
      (made v ++ least, n, walks-act v lt walk, front_given (made v) least xs values, front_counted (made v) least xs many, no_more)
    where
      shorter : (w k : ℕ) (ys : List Item) → v ≡ w → Walk step (next w) ys Running k → given (made w ++ ys) ≡ given (made v ++ xs) → counted (made w ++ ys) ≡ counted (made v ++ xs) → length (made v ++ least) ≤ length (made w ++ ys)
      shorter w k ys e more values' many' =
          let more' = subst (λ u. Walk step (next u) ys Running k) (sym e) more in
          let values'' = subst (λ u. given (made u ++ ys) ≡ given (made v ++ xs)) (sym e) values' in
          let many'' = subst (λ u. counted (made u ++ ys) ≡ counted (made v ++ xs)) (sym e) many' in
          let few = fewest ys k more' (behind_given (made v) ys xs values'') (behind_counted (made v) ys xs many'') in
          let all : length (made v ++ least) ≤ length (made v ++ ys) = omega (arith, few, length-append (made v) least, length-append (made v) ys) in
          subst (λ u. length (made v ++ least) ≤ length (made u ++ ys)) e all

      no_more : (other : List Item) (m : ℕ) → Walk step (Acts range made next) other Running m → given other ≡ given (made v ++ xs) → counted other ≡ counted (made v ++ xs) → length (made v ++ least) ≤ length other
      no_more other m ends-cut values' many' = absurd (omega (arith, some, many'))
      no_more other m (walks-act {items = ys} w lt' more) values' many' =
          shorter w m ys (same_value made v w range xs ys decided lt lt' (sym values')) more values' many'

  least_none : (t : Tree (Next S)) (xs : List Item) → counted xs ≡ 0 → Least t xs
  least_none t xs none = ([], 0, ends-cut, sym (given_none xs none), sym none, λ other m walk values many. omega arith)

  least_walk : {t : Tree (Next S)} → IsOpen t → {xs : List Item} {n : ℕ} (c : ℕ) → counted xs ≡ c → Walk step t xs Running n → Least t xs
  least_walk {t} decided {xs} zero none walk = least_none t xs none
  least_walk decided (suc c) some ends-cut = absurd (omega (arith, some))
  least_walk decided (suc c) some ends-stop = absurd (omega (arith, some))
  least_walk decided {xs} (suc c) some (walks-on {s = s} walk) = least_on s xs c some (least_walk (open_steps s) (suc c) some walk)
  least_walk decided {xs} (suc c) some (walks-begin {t = t} walk) = least_begin t xs c some (least_walk decided (suc c) some walk)
  least_walk decided (suc c) some (walks-act {range = range} {made = made} {next = next} {items = xs} v lt walk) =
      least_act range made next v xs c decided.0 lt some (least_walk (decided.1 v) (counted xs) refl walk)

  -- two runs on the same values, of as many accesses, inputs and outputs, have one trace
  pub same_trace : {s : S} {xs ys : List Item} {end end' : End} {n m : ℕ} → Run step s xs end n → Run step s ys end' m → given xs ≡ given ys → counted xs ≡ counted ys → trace xs ≡ trace ys
  same_trace {s} run other values many = same_trace-walks (open_steps s) (run_walk run) (run_walk other) values many

  -- there is one explanation at most
  pub one_explanation : {s : S} {made xs ys : List Item} {end : End} → Explains step s made end xs → Explains step s made end ys → xs ≡ ys
  one_explanation {s} {xs = xs} {ys = ys} one other =
      let a = one.is_on_same in
      let b = other.is_on_same in
      same_items-long (open_steps s) (run_walk a.run) (run_walk b.run) (a.values ∙ sym b.values) (omega (arith, one.fewest ys b, other.fewest xs a))

  explained_ended : {s : S} {made xs : List Item} {end : End} {n : ℕ} → end ≢ Running → Run step s xs end n → given xs ≡ given made → counted xs ≡ counted made → Explains step s made end xs
  explained_ended {s} {made} {xs} {end} {n} ended run values many = record {
    is_on_same = record { begun = n; run = run; values = values; many = many };
    fewest = λ other on_same.
        let same = same_items-ended (open_steps s) ended ended (run_walk run) (run_walk on_same.run) (values ∙ sym on_same.values) in
        omega (arith, ap length same);
  }

  explained_cut : {s : S} {made xs : List Item} {n : ℕ} → Run step s xs Running n → given xs ≡ given made → counted xs ≡ counted made → (items : List Item) × Explains step s made Running items
  explained_cut {s} {made} {xs} run values many =
      let least = least_walk (open_steps s) (counted xs) refl (run_walk run) in (
        least.0,
        record {
          is_on_same = record { begun = least.1; run = walk_run least.2; values = least.3 ∙ values; many = least.4 ∙ many };
          fewest = λ other on_same. least.5 other on_same.begun (run_walk on_same.run) (on_same.values ∙ sym values) (on_same.many ∙ sym many);
        },
      )

  -- where there is a run on the same values, of as many accesses, inputs and outputs, there is one with the fewest items
  explained_by : {s : S} {made xs : List Item} {n : ℕ} (end : End) → Run step s xs end n → given xs ≡ given made → counted xs ≡ counted made → (items : List Item) × Explains step s made end items
  explained_by Running run values many = explained_cut run values many
  explained_by {xs = xs} Halted run values many = (xs, explained_ended (λ same. cc) run values many)
  explained_by {xs = xs} (Trap kind) run values many = (xs, explained_ended (λ same. cc) run values many)

  -- Each run of a target whose runs the source matches has an explanation.
  pub explained : {T : Type 0} (target : T → Tree (Next T)) (s : S) (t : T) → Backward step s target t
      → {made : List Item} {end : End} {n : ℕ} → Run target t made end n → (items : List Item) × Explains step s made end items
  explained target s t backward {made} {end} {n} run =
      let one = backward made end n run in
      explained_by end one.2 (same_given one.0 made one.3) (same_counted one.0 made one.3)

  -- An explanation has the trace of what it explains.
  pub explanation_trace : {T : Type 0} (target : T → Tree (Next T)) (s : S) (t : T) → Backward step s target t
      → {made : List Item} {end : End} {n : ℕ} → Run target t made end n → {items : List Item} → Explains step s made end items → trace items ≡ trace made
  explanation_trace target s t backward {made} {end} {n} run explains =
      let one = backward made end n run in
      let on_same = explains.is_on_same in
      same_trace on_same.run one.2 (on_same.values ∙ sym (same_given one.0 made one.3)) (on_same.many ∙ sym (same_counted one.0 made one.3)) ∙ one.3

  -- A run that is matched with more than the trace begins with the explanation.
  pub explanation_first : {T : Type 0} (seen : List Item → List Item) → IsCoarser seen trace → (target : T → Tree (Next T)) (s : S) (t : T) → BackwardBy seen step s target t
      → {made : List Item} {end : End} {n : ℕ} → Run target t made end n → {items : List Item} → Explains step s made end items
      → (from rest : List Item) × (from ≡ items ++ rest) × (seen from ≡ seen made)
  explanation_first seen coarser target s t backward {made} {end} {n} run {items} explains =
      let one = backward made end n run in
      let on_same = explains.is_on_same in
      let same = coarser one.0 made one.3 in
      let values = same_given one.0 made same in
      let few = explains.fewest one.0 (record { begun = one.1; run = one.2; values = values; many = same_counted one.0 made same }) in
      let rest = prefix-walks (open_steps s) (run_walk on_same.run) (run_walk one.2) (on_same.values ∙ sym values) few in
      (one.0, rest.0, rest.1, one.3)
