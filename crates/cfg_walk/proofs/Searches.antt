-- The search for reached code: how it begins, goes on and ends.
use Rattle.std.proofs.Common.{◌≡◌, ◌<◌, ◌≤◌, ◌+◌, ℕ, Bool, true, false, List, [], ◌∷◌, ◌++◌, length, ◌⊎◌, inl, inr, Option, Some, None, IfSome, IsSomeAnd, map, ap, sym, ◌∙◌, refl, subst, take, sum_by, arith, get_or}
use Rattle.std.specs.Prelude.{nat_le, if◌then◌else◌}
use Rattle.std.specs.List.{slice_get}
use Rattle.std.proofs.lemmas.Option.{slice_get_within}
use Rattle.std.proofs.lemmas.Bool.{cases_lt}
use Rattle.std.proofs.lemmas.Bool.Decides.{nat_tests}
use Rattle.ev_graph.specs.Places.{StandsIn, IsDistinct}
use Rattle.x64_syntax.specs.declared.placed.Placed.{Placed}
use Rattle.elf_read.specs.declared.fault.CodeFault.{CodeFault}
use Rattle.elf_read.specs.declared.fault.FileFault.{FileFault}
use Rattle.elf_read.specs.declared.fault.FileFault.TheVariants.{TooMuchCode, BadCode}
use Rattle.elf_read.specs.FirstFault.{Clear, IsFirst, Before, rank, place as place_of}
use Rattle.code_at.specs.Code.{Program, StandsAt, IsBad}
use Rattle.code_at.proofs.CallerLemmas.{one_instruction, bad_stands}
use Rattle.graph_reach.specs.Nodes.{Adds}
use Rattle.graph_reach.proofs.CallerLemmas.{sum_within, kept_back, same_front}
use Rattle.ev_graph.proofs.PlaceLemmas.{get-append, get-push, push_cases}
use Rattle.std.proofs.lemmas.List.{take_more, map-append, take_all, length-map}
use Rattle.std.proofs.lemmas.List.Sums.{sum_by-cons}
use Rattle.std.proofs.lemmas.Option.{slice_get-get_or}
use Rattle.jump_table.specs.declared.entries.Table.{Table}
use Rattle.jump_table.specs.Pattern.{Begins, IsToldTable}
use Rattle.jump_table.proofs.CallerLemmas.{one_table}
use Rattle.cfg_walk.specs.Reach.{IsReached, at-entry, at-next, at-table, IsPlaced, HasEntry, successors}
use Rattle.cfg_walk.specs.Faults.{IsTooMuch, IsBadCode, Holds, Counted, weight, weight_with, code_limit}
use Rattle.cfg_walk.specs.Searching.{IsFound, IsMissing, IsSearching, Tells, AreFound, AreWeighed, Weighs, lesser_of, address_of, told_entries}
use Rattle.cfg_walk.proofs.Gathered.{in_either, in_left, in_right}
use Rattle.cfg_walk.proofs.Tables.{first_stands, told_entry, entry_told}
use Rattle.cfg_walk.proofs.Weighing.{weigh_one, none_weighed, at_least_one, counted_within, over_limit, stands_taken, distinct_taken}

-- the search begins where the threads do
pub begins : (program : Program) (nodes : List ℕ) → Adds [] program.entries nodes → IsSearching program nodes 0 0 [] None
begins program nodes adds = record {
  reached = λ a at. elim (adds.only a at) [
    | inl nowhere ↦ absurd (let nothing = nowhere.1 in cc)
    | inr is ↦ at-entry is
  ];
  started = adds.there;
  told = λ i a less. absurd (omega (arith, less));
  only = λ p at. absurd (let nothing = at.1 in cc);
  along = λ e. refl;
  worst = tt;
  within = omega arith;
  weighed = none_weighed program;
  few = omega arith;
}

-- where nodes are added, what was told of an address stays
found_more : (program : Program) (nodes now : List ℕ) (placed : List Placed) (q : Placed) (more : List ℕ) (a : ℕ) → Adds nodes more now
    → IsFound program nodes placed a → IsFound program now (placed ++ q ∷ []) a
found_more program nodes now placed q more a adds found = record {
  p = found.p;
  stands = found.stands;
  listed = (found.listed.0, get-append placed (q ∷ []) found.listed.0 found.p found.listed.1);
  leads = λ b at. let before = found.leads b at in (before.0, adds.kept before.0 b before.1);
  enters = λ b at. let before = found.enters b at in (before.0, adds.kept before.0 b before.1);
}

some_same : {A : Type 0} {x y : A} → Some x ≡ Some y → x ≡ y
some_same e = cc

no_some : {A : Type 0} {x : A} → None ≡ Some x → ⊥
no_some e = absurd cc

taken_more : (xs : List ℕ) (i a : ℕ) → slice_get xs i ≡ Some a → take (i + 1) xs ≡ take i xs ++ a ∷ []
taken_more xs i a at =
    let within = slice_get_within xs i a at in
    let last : get_or xs i 0 ≡ a = some_same (sym (slice_get-get_or xs i 0 within) ∙ at) in
    take_more xs i 0 within ∙ ap (λ (x : ℕ). take i xs ++ x ∷ []) last

-- the instruction at the next node is told
pub noted : (program : Program) (table : Option Table) (nodes now : List ℕ) (place : ℕ) (placed : List Placed) (bad : Option CodeFault) (p : Placed) (a : ℕ)
    → slice_get nodes place ≡ Some a → StandsAt program a p → IsToldTable program a table → Adds nodes (told_entries program table ++ successors p) now
    → Tells program table nodes placed bad now (placed ++ p ∷ []) bad place
noted program table nodes now place placed bad p a at stands told adds total s once less few = record {
  reached = λ b in_now. elim (adds.only b in_now) [
    | inl before ↦ s.reached b before
    | inr next ↦ elim (in_either (told_entries program table) (successors p) b next) [
      | inl entry ↦ at-table here_reached (entry_told program a table told b entry)
      | inr after ↦ at-next p here_reached stands after
    ]
  ];
  started = λ b is. let before = s.started b is in (before.0, adds.kept before.0 b before.1);
  told = tells;
  only = λ q is. by_cases q is (push_cases placed p is.0 q is.1);
  along = λ e. map-append address_of placed (p ∷ []) ∙ ap (λ (xs : List ℕ). xs ++ p.address ∷ []) (s.along e)
      ∙ ap (λ (x : ℕ). take place nodes ++ x ∷ []) stands.here ∙ sym front;
  worst = s.worst;
  within = (let there = slice_get_within now place a (adds.kept place a at) in omega (arith, there));
  weighed = subst (λ (xs : List ℕ). AreWeighed program xs (total + weight_with table)) (sym front) (weigh_one program nodes place a table total at once told s.weighed);
  few = few;
}
  where
    front : take (place + 1) now ≡ take place nodes ++ a ∷ []
    front = same_front (place + 1) nodes now adds.kept (omega (arith, less)) ∙ taken_more nodes place a at

    here_reached : IsReached program a
    here_reached = s.reached a (place, at)

    by_cases : (q : Placed) (is : StandsIn (placed ++ p ∷ []) q) → (slice_get placed is.0 ≡ Some q) ⊎ ((is.0 ≡ length placed) × (p ≡ q)) → IsPlaced program q
    by_cases q is (inl before) = s.only q (is.0, before)
    by_cases q is (inr last) =
        subst (λ (r : Placed). IsPlaced program r) last.1
        (record { reached = subst (λ (x : ℕ). IsReached program x) (sym stands.here) here_reached; stands = subst (λ (x : ℕ). StandsAt program x p) (sym stands.here) stands })

    tells : (i b : ℕ) → i < place + 1 → slice_get now i ≡ Some b → IsFound program now (placed ++ p ∷ []) b ⊎ IsMissing program bad b
    tells i b below here = by_place (cases_lt i place)
      where
        by_place : (i < place) ⊎ (place ≤ i) → IsFound program now (placed ++ p ∷ []) b ⊎ IsMissing program bad b
        by_place (inl earlier) =
            elim (s.told i b earlier (kept_back nodes now adds.kept i b (omega (arith, earlier, less)) here)) [
              | inl found ↦ inl (found_more program nodes now placed p (told_entries program table ++ successors p) b adds found)
              | inr missing ↦ inr missing
            ]
        by_place (inr later) =
            let same : i ≡ place = omega (arith, later, below) in
            let one : a ≡ b = some_same (sym (adds.kept place a at) ∙ ap (slice_get now) (sym same) ∙ here) in
            inl (record {
              p = p;
              stands = subst (λ (x : ℕ). StandsAt program x p) one stands;
              listed = (length placed, get-push placed p);
              leads = λ c next. adds.there c (in_right (told_entries program table) (successors p) c next);
              enters = λ c entry. adds.there c (in_left (told_entries program table) (successors p) c
                  (told_entry program b table (subst (λ (x : ℕ). IsToldTable program x table) one told) c entry));
            })

lesser_cases : (kept : Option CodeFault) (fault : CodeFault) → (kept ≡ Some (lesser_of kept fault)) ⊎ (lesser_of kept fault ≡ fault)
lesser_cases None fault = inr refl
lesser_cases (Some kept) fault = by_test (nat_le kept.address fault.address)
  where
    by_test : (b : Bool) → (Some kept ≡ Some (if b then kept else fault)) ⊎ ((if b then kept else fault) ≡ fault)
    by_test true = inl refl
    by_test false = inr refl

lesser_below : (kept : Option CodeFault) (fault : CodeFault) → (lesser_of kept fault).address ≤ fault.address
lesser_below None fault = omega arith
lesser_below (Some kept) fault = by_test (nat_le kept.address fault.address) refl
  where
    by_test : (b : Bool) → nat_le kept.address fault.address ≡ b → (if b then kept else fault).address ≤ fault.address
    by_test true e = grind (arith, nat_tests)
    by_test false e = omega arith

lesser_kept : (kept : Option CodeFault) (fault : CodeFault) (a : ℕ) → IsSomeAnd kept (λ f. f.address ≤ a) → (lesser_of kept fault).address ≤ a
lesser_kept None fault a is = absurd is
lesser_kept (Some kept) fault a is = by_test (nat_le kept.address fault.address) refl
  where
    by_test : (b : Bool) → nat_le kept.address fault.address ≡ b → (if b then kept else fault).address ≤ a
    by_test true e = is
    by_test false e = grind (arith, nat_tests)

-- that no instruction stands at the next node is told
pub missed : (program : Program) (table : Option Table) (nodes : List ℕ) (place : ℕ) (placed : List Placed) (bad : Option CodeFault) (fault : CodeFault)
    → slice_get nodes place ≡ Some fault.address → IsBad program fault.address fault.kind → IsToldTable program fault.address table
    → Tells program table nodes placed bad nodes placed (Some (lesser_of bad fault)) place
missed program table nodes place placed bad fault at is told total s once less few = record {
  reached = s.reached;
  started = s.started;
  told = tells;
  only = s.only;
  along = λ e. absurd (no_some (sym e));
  worst = worse (lesser_cases bad fault) s.worst;
  within = omega (arith, less);
  weighed = subst (λ (xs : List ℕ). AreWeighed program xs (total + weight_with table)) (sym (taken_more nodes place fault.address at))
      (weigh_one program nodes place fault.address table total at once told s.weighed);
  few = few;
}
  where
    kept_worst : (kept : Option CodeFault) (f : CodeFault) → kept ≡ Some f → IfSome kept (IsBadCode program) → IsBadCode program f
    kept_worst None f e is = absurd (no_some e)
    kept_worst (Some g) f e is = subst (λ (h : CodeFault). IsBadCode program h) (some_same e) is

    worse : (bad ≡ Some (lesser_of bad fault)) ⊎ (lesser_of bad fault ≡ fault) → IfSome bad (IsBadCode program) → IsBadCode program (lesser_of bad fault)
    worse (inl same) before = kept_worst bad (lesser_of bad fault) same before
    worse (inr same) before = subst (λ (h : CodeFault). IsBadCode program h) (sym same) (record { reached = s.reached fault.address (place, at); bad = is })

    tells : (i b : ℕ) → i < place + 1 → slice_get nodes i ≡ Some b → IsFound program nodes placed b ⊎ IsMissing program (Some (lesser_of bad fault)) b
    tells i b below here = by_place (cases_lt i place)
      where
        by_place : (i < place) ⊎ (place ≤ i) → IsFound program nodes placed b ⊎ IsMissing program (Some (lesser_of bad fault)) b
        by_place (inl earlier) =
            elim (s.told i b earlier here) [
              | inl found ↦ inl found
              | inr missing ↦ inr (record { kind = missing.kind; is_bad = missing.is_bad; kept = lesser_kept bad fault b missing.kept })
            ]
        by_place (inr later) =
            let same : i ≡ place = omega (arith, later, below) in
            let one : fault.address ≡ b = some_same (sym at ∙ ap (slice_get nodes) (sym same) ∙ here) in
            inr (record {
              kind = fault.kind;
              is_bad = subst (λ (x : ℕ). IsBad program x fault.kind) one is;
              kept = subst (λ (x : ℕ). (lesser_of bad fault).address ≤ x) one (lesser_below bad fault);
            })

-- ---- the end of the search

module _ (program : Program) (nodes : List ℕ) (place total : ℕ) (placed : List Placed) (bad : Option CodeFault) (s : IsSearching program nodes place total placed bad)
    (once : IsDistinct nodes) (end : length nodes ≤ place) where
  told_each : (a : ℕ) → StandsIn nodes a → IsFound program nodes placed a ⊎ IsMissing program bad a
  told_each a at = let within = slice_get_within nodes at.0 a at.1 in s.told at.0 a (omega (arith, within, end)) at.1

  -- all that is reached is among the nodes
  each_reached : (a : ℕ) → IsReached program a → StandsIn nodes a
  each_reached a (at-entry is) = s.started a is
  each_reached b (at-next {a = a} p reached stands leads) =
      elim (told_each a (each_reached a reached)) [
        | inl found ↦
            let same = one_instruction program a found.p p found.stands stands in
            found.leads b (subst (λ (q : Placed). StandsIn (successors q) b) (sym same) leads)
        | inr missing ↦ absurd (bad_stands program a missing.kind p missing.is_bad stands)
      ]
  each_reached b (at-table {a = a} reached is) =
      elim (told_each a (each_reached a reached)) [
        | inl found ↦ found.enters b is
        | inr missing ↦
            (let first = first_stands program a is.table is.begins in
            absurd (bad_stands program a missing.kind first.0 missing.is_bad first.1))
      ]

  weighed : AreWeighed program nodes total
  weighed = subst (λ (xs : List ℕ). AreWeighed program xs total) (take_all place nodes end) s.weighed

  not_too_much : IsTooMuch program → ⊥
  not_too_much is =
      let most = counted_within program nodes total weighed is.some (λ c at. each_reached c.address (is.reached c at)) is.begins is.once in
      omega (arith, most, is.more, s.few)

  missing_of : (fault : CodeFault) → IsBadCode program fault → IsSomeAnd bad (λ f. f.address ≤ fault.address)
  missing_of fault is =
      elim (told_each fault.address (each_reached fault.address is.reached)) [
        | inl found ↦ absurd (bad_stands program fault.address fault.kind found.p is.bad found.stands)
        | inr missing ↦ missing.kept
      ]

  pub first_bad : (fault : CodeFault) → bad ≡ Some fault → IsFirst (Holds program) 13 15 (BadCode fault)
  first_bad fault e = record {
    holds = holds bad e s.worst;
    from = omega arith;
    below = omega arith;
    first = before;
  }
    where
      holds : (kept : Option CodeFault) → kept ≡ Some fault → IfSome kept (IsBadCode program) → IsBadCode program fault
      holds None e is = absurd (no_some e)
      holds (Some g) e is = subst (λ (h : CodeFault). IsBadCode program h) (some_same e) is

      lower : (other : CodeFault) → IsBadCode program other → other.address < fault.address → ⊥
      lower other is less = least (missing_of other is)
        where
          least : IsSomeAnd bad (λ f. f.address ≤ other.address) → ⊥
          least kept = let at_fault : fault.address ≤ other.address = subst (λ (b : Option CodeFault). IsSomeAnd b (λ f. f.address ≤ other.address)) e kept in omega (arith, at_fault, less)

      before : (g : FileFault) → 13 ≤ rank g → Before g (BadCode fault) → Holds program g → ⊥
      before TooMuchCode low first is = not_too_much is
      before (BadCode other) low (inl less) is = absurd (omega (arith, less))
      before (BadCode other) low (inr less) is = lower other is less.1
      before g low (inl less) is = absurd (omega (arith, less, low))
      before g low (inr same) is = absurd (omega (arith, same.0, low))

  pub none_bad : bad ≡ None → Clear (Holds program) 13 15
  none_bad e TooMuchCode low high is = not_too_much is
  none_bad e (BadCode fault) low high is = subst (λ (b : Option CodeFault). IsSomeAnd b (λ f. f.address ≤ fault.address)) e (missing_of fault is)
  none_bad e g low high is = absurd (omega (arith, low, high))

  pub all_found : bad ≡ None → AreFound program placed
  all_found e = record {
    exact = λ p. (s.only p, listed p);
    once = subst (λ (xs : List ℕ). IsDistinct xs) (sym (addresses)) once;
    whole = whole;
    few = few;
  }
    where
      addresses : map address_of placed ≡ nodes
      addresses = s.along e ∙ take_all place nodes end

      few : length placed ≤ code_limit
      few = let same : length (map address_of placed) ≡ length nodes = ap length addresses in let long = length-map placed address_of in omega (arith, same, long, s.few, at_least_one program nodes total weighed)

      no_missing : (a : ℕ) → IsMissing program bad a → ⊥
      no_missing a missing = subst (λ (b : Option CodeFault). IsSomeAnd b (λ f. f.address ≤ a)) e missing.kept

      listed : (p : Placed) → IsPlaced program p → StandsIn placed p
      listed p is =
          elim (told_each p.address (each_reached p.address is.reached)) [
            | inl found ↦ subst (λ (q : Placed). StandsIn placed q) (one_instruction program p.address found.p p found.stands is.stands) found.listed
            | inr missing ↦ absurd (no_missing p.address missing)
          ]

      whole : (a : ℕ) → IsReached program a → (p : Placed) × IsPlaced program p × (p.address ≡ a)
      whole a reached =
          elim (told_each a (each_reached a reached)) [
            | inl found ↦ (found.p, s.only found.p found.listed, found.stands.here)
            | inr missing ↦ absurd (no_missing a missing)
          ]

-- what counts for more than the limit is too much
pub over : (program : Program) (table : Option Table) (nodes : List ℕ) (place a total : ℕ) (placed : List Placed) (bad : Option CodeFault)
    → IsSearching program nodes place total placed bad → IsDistinct nodes → slice_get nodes place ≡ Some a → IsToldTable program a table
    → code_limit < total + weight_with table → IsFirst (Holds program) 13 15 TooMuchCode
over program table nodes place a total placed bad s once at told more = record {
  holds = too_much;
  from = omega arith;
  below = omega arith;
  first = before;
}
  where
    front : AreWeighed program (take (place + 1) nodes) (total + weight_with table)
    front = subst (λ (xs : List ℕ). AreWeighed program xs (total + weight_with table)) (sym (taken_more nodes place a at))
        (weigh_one program nodes place a table total at once told s.weighed)

    too_much : IsTooMuch program
    too_much = over_limit program (take (place + 1) nodes) (total + weight_with table) front
        (λ b is. let whole = stands_taken (place + 1) nodes b is in s.reached b whole) (distinct_taken (place + 1) nodes once) more

    before : (g : FileFault) → 13 ≤ rank g → Before g TooMuchCode → Holds program g → ⊥
    before TooMuchCode low (inl first) is = absurd (omega (arith, first))
    before TooMuchCode low (inr first) is = absurd (omega (arith, first.1))
    before g low (inl less) is = absurd (omega (arith, less, low))
    before g low (inr same) is = before_same g low same is
      where
        before_same : (g : FileFault) → 13 ≤ rank g → (rank g ≡ 13) × (place_of g < 0) → Holds program g → ⊥
        before_same g low same is = absurd (omega (arith, same.1))

-- ---- as the code has it

pub begins_from : (program : Program) (empty starts nodes : List ℕ) (placed : List Placed) → empty ≡ [] → starts ≡ program.entries → placed ≡ [] → Adds empty starts nodes
    → IsSearching program nodes 0 0 placed None
begins_from program empty starts nodes placed none entries nothing adds =
    subst (λ (ps : List Placed). IsSearching program nodes 0 0 ps None) (sym nothing)
    (begins program nodes (subst (λ (xs : List ℕ). Adds [] xs nodes) entries (subst (λ (xs : List ℕ). Adds xs starts nodes) none adds)))

pub noted_from : (program : Program) (table : Option Table) (nodes more now : List ℕ) (place : ℕ) (placed placed' : List Placed) (bad : Option CodeFault) (p : Placed) (a : ℕ)
    → slice_get nodes place ≡ Some a → StandsAt program a p → IsToldTable program a table → more ≡ told_entries program table ++ successors p → placed' ≡ placed ++ p ∷ []
    → Adds nodes more now → Tells program table nodes placed bad now placed' bad place
noted_from program table nodes more now place placed placed' bad p a at stands told leads pushed adds total s once less few =
    subst (λ (ps : List Placed). IsSearching program now (place + 1) (total + weight_with table) ps bad) (sym pushed)
    (noted program table nodes now place placed bad p a at stands told (subst (λ (xs : List ℕ). Adds nodes xs now) leads adds) total s once less few)

pub missed_from : (program : Program) (table : Option Table) (nodes : List ℕ) (place : ℕ) (placed : List Placed) (bad : Option CodeFault) (fault lesser : CodeFault)
    → lesser ≡ lesser_of bad fault → slice_get nodes place ≡ Some fault.address → IsBad program fault.address fault.kind → IsToldTable program fault.address table
    → Tells program table nodes placed bad nodes placed (Some lesser) place
missed_from program table nodes place placed bad fault lesser same at is told total s once less few =
    subst (λ (f : CodeFault). IsSearching program nodes (place + 1) (total + weight_with table) placed (Some f)) (sym same)
    (missed program table nodes place placed bad fault at is told total s once less few)
