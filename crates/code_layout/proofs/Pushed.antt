-- Words that are appended one after the other.
use Rattle.std.proofs.Common.{◌≡◌, ℕ, ◌+◌, ◌*◌, ◌/◌, ◌^◌, ◌<◌, ◌≤◌, List, [], ◌∷◌, ◌++◌, length, take, drop, get_or, refl, sym, ap, ◌∙◌, subst, arith, append_assoc, length-append}
use Rattle.std.proofs.lemmas.List.{append-nil, take-append-drop}
use Rattle.ev_graph.specs.declared.events.TrapKind.TheVariants.{BadReturn}
use Rattle.a64_code.specs.declared.instr.XReg.{XReg}
use Rattle.a64_code.specs.declared.instr.A64.{A64}
use Rattle.a64_code.specs.declared.instr.A64.TheVariants as words
use Rattle.a64_block.specs.Breaks.{break_of}
use Rattle.a64_block.specs.declared.block.ABlock.{ABlock}
use Rattle.code_layout.specs.Places.{block_size, blocks_size}
use Rattle.code_layout.specs.Search.{Nowhere, Leaf, Fork, search_size, Rise}
use Rattle.code_layout.specs.Code.{leaf_words, fork_words, search_words, end_words, block_words, blocks_words, AppendsSearch}
use Rattle.code_layout.proofs.Searches.{length-search_words}
use Rattle.code_layout.proofs.Sizes.{blocks_size-cons, length-blocks_words}
use Rattle.code_layout.proofs.Starts.{blocks_size-push}
use Rattle.code_layout.proofs.Trees.{nowhere_looks_up, leaf_looks_up, fork_looks_up, rise_first, rise_second}

-- one block more behind blocks
pub blocks_words-push : (start : ℕ → ℕ) (returns at : ℕ) (bs : List (ABlock XReg)) (b : ABlock XReg)
    → blocks_words start returns at (bs ++ b ∷ []) ≡ blocks_words start returns at bs ++ block_words start returns (at + blocks_size bs) b
blocks_words-push start returns at [] b = let e : at ≡ at + 0 = omega arith in append-nil (block_words start returns at b) ∙ ap (λ n. block_words start returns n b) e
blocks_words-push start returns at (c ∷ bs) b =
    let e : at + block_size c + blocks_size bs ≡ at + blocks_size (c ∷ bs) = omega (arith, blocks_size-cons c bs) in
    ap (λ l. block_words start returns at c ++ l) (blocks_words-push start returns (at + block_size c) bs b ∙ ap
    (λ n. blocks_words start returns (at + block_size c) bs ++ block_words start returns n b) e)
    ∙ sym (append_assoc (block_words start returns at c) (blocks_words start returns (at + block_size c) bs) (block_words start returns (at + blocks_size (c ∷ bs)) b))

-- a fork, the words of one half, and those of the other
pub forked : (start : ℕ → ℕ) (old mid one two : List (A64 XReg)) (xs : List ℕ) (key : ℕ) (ys : List ℕ) → Rise (xs ++ key ∷ ys) → key < 2 ^ 64
    → 0 < length xs → length xs ≤ length (key ∷ ys) → length (key ∷ ys) ≤ length xs + 1
    → mid ≡ old ++ fork_words (length old) key (length old + 15 * length xs) → AppendsSearch start xs mid one → AppendsSearch start (key ∷ ys) one two
    → AppendsSearch start (xs ++ key ∷ ys) old two
forked start old mid one two xs key ys rise fits some le near fork (below, looks_below, one_is) (above, looks_above, two_is) =
    let n = length old in
    let size = looks_below.size some in
    let place : n + 15 * length xs ≡ n + 7 + search_size below = omega (arith, size) in
    let fork_is = fork ∙ ap (λ k. old ++ fork_words n key k) place in
    let words = fork_words n key (n + 7 + search_size below) in
    let at_below : length mid ≡ n + 7 = ap length fork_is ∙ length-append old words ∙ omega arith in
    let one_here : one ≡ mid ++ search_words start (n + 7) below = one_is ∙ ap (λ k. mid ++ search_words start k below) at_below in
    let at_above : length one ≡ n + 7 + search_size below =
    ap length one_here ∙ length-append mid (search_words start (n + 7) below) ∙ ap (λ k. k + length (search_words start (n + 7) below)) at_below ∙ ap (λ k. n + 7 + k)
    (length-search_words start (n + 7) below) in
    let two_here : two ≡ one ++ search_words start (n + 7 + search_size below) above = two_is ∙ ap (λ k. one ++ search_words start k above) at_above in (
      Fork key below above,
      fork_looks_up xs key ys rise below above looks_below looks_above fits some le near,
      two_here ∙ ap (λ l. l ++ search_words start (n + 7 + search_size below) above) (one_here ∙ ap (λ l. l ++ search_words start (n + 7) below) fork_is)
          ∙ append_assoc (old ++ words) (search_words start (n + 7) below) (search_words start (n + 7 + search_size below) above)
          ∙ append_assoc old words (search_words start (n + 7) below ++ search_words start (n + 7 + search_size below) above),
    )

-- a list of at least two in halves, of which the second has a first
pub record Halved (sites below above : List ℕ) : Type 0 where
  pub rest : List ℕ
  pub parts : below ++ get_or above 0 0 ∷ rest ≡ sites
  pub second : above ≡ get_or above 0 0 ∷ rest
  pub some : 0 < length below
  pub less : length below < length sites
  pub le : length below ≤ length above
  pub near : length above ≤ length below + 1
  pub all : length below + length above ≡ length sites

pub halved : (sites below above : List ℕ) → 2 ≤ length sites → below ≡ take (length sites / 2) sites → above ≡ drop (length sites / 2) sites
    → length below ≡ length sites / 2 → length above + length sites / 2 ≡ length sites → Halved sites below above
halved sites below above many front back front_long back_long =
    let first = first_of above (omega (arith, many, back_long)) in
    record {
      rest = first.0;
      parts = ap (λ l. below ++ l) (sym first.1) ∙ ap (λ l. l ++ above) front ∙ ap (λ l. take (length sites / 2) sites ++ l) back ∙ take-append-drop (length sites / 2) sites;
      second = first.1;
      some = omega (arith, many, front_long);
      less = omega (arith, many, front_long);
      le = omega (arith, front_long, back_long);
      near = omega (arith, front_long, back_long);
      all = omega (arith, front_long, back_long);
    }
  where
    first_of : (xs : List ℕ) → 0 < length xs → (rest : List ℕ) × (xs ≡ get_or xs 0 0 ∷ rest)
    first_of [] some = absurd (omega (arith, some))
    first_of (x ∷ xs) some = (xs, refl)

-- both halves rise
pub rise_below : (sites below above : List ℕ) → Halved sites below above → Rise sites → Rise below
rise_below sites below above halves rise = rise_first below (get_or above 0 0 ∷ halves.rest) (subst Rise (sym halves.parts) rise)

pub rise_above : (sites below above : List ℕ) → Halved sites below above → Rise sites → Rise above
rise_above sites below above halves rise = subst Rise (sym halves.second) (rise_second below (get_or above 0 0 ∷ halves.rest) (subst Rise (sym halves.parts) rise))

-- behind a fork there is room for its first half
pub room_fork : (old mid : List (A64 XReg)) (below above : List ℕ) (key place most : ℕ) → 0 < length above → mid ≡ old ++ fork_words (length old) key place
    → length old + 15 * (length below + length above) ≤ most → length mid + 15 * length below ≤ most
room_fork old mid below above key place most some fork few =
    let at_below : length mid ≡ length old + 7 = ap length fork ∙ length-append old (fork_words (length old) key place) ∙ omega arith in
    omega (arith, some, at_below, few)

-- and behind the words of that half there is room for the second
pub room_behind : (start : ℕ → ℕ) (old mid one : List (A64 XReg)) (below above : List ℕ) (key place most : ℕ) → 0 < length below → mid ≡ old ++ fork_words (length old) key place
    → AppendsSearch start below mid one → length old + 15 * (length below + length above) ≤ most → length one + 15 * length above ≤ most
room_behind start old mid one below above key place most some fork (t, looks_up, one_is) few =
    let size = looks_up.size some in
    let at_below : length mid ≡ length old + 7 = ap length fork ∙ length-append old (fork_words (length old) key place) ∙ omega arith in
    let at_above = ap length one_is ∙ length-append mid (search_words start (length mid) t) in
    let long = length-search_words start (length mid) t in
    omega (arith, size, at_below, at_above, long, few)

-- a tree of two halves
pub forked_halves : (start : ℕ → ℕ) (old mid one two : List (A64 XReg)) (sites below above : List ℕ) → Halved sites below above → Rise sites → get_or above 0 0 < 2 ^ 64
    → mid ≡ old ++ fork_words (length old) (get_or above 0 0) (length old + 15 * length below) → AppendsSearch start below mid one → AppendsSearch start above one two
    → AppendsSearch start sites old two
forked_halves start old mid one two sites below above halves rise fits fork first second =
    let key = get_or above 0 0 in
    let long = ap length halves.second in
    let le = halves.le in
    let near = halves.near in
    subst (λ l. AppendsSearch start l old two) halves.parts
    (forked start old mid one two below key halves.rest (subst Rise (sym halves.parts) rise) fits halves.some (omega (arith, long, le)) (omega (arith, long, near)) fork first
    (subst (λ l. AppendsSearch start l one two) halves.second second))

-- a tree of one site
pub leaf_appended : (start : ℕ → ℕ) (old new : List (A64 XReg)) (sites : List ℕ) (site place : ℕ) → length sites ≡ 1 → site ≡ get_or sites 0 0 → site < 2 ^ 64 → place ≡ start site
    → new ≡ old ++ leaf_words (length old) site place → AppendsSearch start sites old new
leaf_appended start old new [] site place one is fits at words = absurd (omega (arith, one))
leaf_appended start old new (x ∷ []) site place one is fits at words =
    (Leaf x, leaf_looks_up x (omega (arith, is, fits)), words ∙ ap (λ p. old ++ leaf_words (length old) site p) at ∙ ap (λ k. old ++ leaf_words (length old) k (start k)) is)
leaf_appended start old new (x ∷ y ∷ xs) site place one is fits at words = absurd (omega (arith, one))

-- no site
pub nowhere_appended : (start : ℕ → ℕ) (old new : List (A64 XReg)) (sites : List ℕ) → length sites ≡ 0 → new ≡ old ++ words.Brk (break_of BadReturn) ∷ [] → AppendsSearch start sites old new
nowhere_appended start old new [] none words = (Nowhere, nowhere_looks_up, words)
nowhere_appended start old new (x ∷ xs) none words = absurd (omega (arith, none))

-- ---- blocks

-- the words of one block more, and room for its end
pub block_appended : (start : ℕ → ℕ) (returns : ℕ) (old before mid after : List (A64 XReg)) (bs : List (ABlock XReg)) (b : ABlock XReg) → before ≡ old ++ blocks_words start returns (length old) bs
    → mid ≡ before ++ b.steps → after ≡ mid ++ end_words start returns (length mid) b.end → after ≡ old ++ blocks_words start returns (length old) (bs ++ b ∷ [])
block_appended start returns old before mid after bs b is steps fin =
    let n = length old + blocks_size bs in
    let at_block : length before ≡ n = ap length is ∙ length-append old (blocks_words start returns (length old) bs) ∙ ap (λ k. length old + k) (length-blocks_words start returns (length old) bs) in
    let at_end : length mid ≡ n + length b.steps = ap length steps ∙ length-append before b.steps ∙ ap (λ k. k + length b.steps) at_block in
    fin ∙ ap (λ k. mid ++ end_words start returns k b.end) at_end ∙ ap (λ l. l ++ end_words start returns (n + length b.steps) b.end) steps
    ∙ append_assoc before b.steps (end_words start returns (n + length b.steps) b.end) ∙ ap (λ l. l ++ block_words start returns n b) is
    ∙ append_assoc old (blocks_words start returns (length old) bs) (block_words start returns n b) ∙ ap (λ l. old ++ l) (sym (blocks_words-push start returns (length old) bs b))

pub room_for_end : (start : ℕ → ℕ) (returns : ℕ) (old before mid : List (A64 XReg)) (bs blocks : List (ABlock XReg)) (b : ABlock XReg) (most : ℕ)
    → before ≡ old ++ blocks_words start returns (length old) bs
    → mid ≡ before ++ b.steps → blocks_size (bs ++ b ∷ []) ≤ blocks_size blocks → length old + blocks_size blocks ≤ most → length mid ≤ most
room_for_end start returns old before mid bs blocks b most is steps within few =
    let at_block = ap length is ∙ length-append old (blocks_words start returns (length old) bs) in
    let long = length-blocks_words start returns (length old) bs in
    let at_end = ap length steps ∙ length-append before b.steps in
    omega (arith, at_block, long, at_end, within, few, blocks_size-push bs b)
