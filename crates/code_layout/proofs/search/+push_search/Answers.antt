use Rattle.std.proofs.Common.{◌^◌, ◌<◌, ◌+◌, ◌*◌, ◌/◌, ◌++◌, length, get_or, arith, refl, ap, ◌∙◌}
use Rattle.std.proofs.lemmas.Result.{on_ok_weaker}
use Rattle.code_layout.specs.Places.{start_of}
use Rattle.code_layout.specs.Code.{AppendsSearch, fork_words}
use Rattle.code_layout.proofs.Pushed.{halved, rise_below, rise_above, room_fork, room_behind, forked_halves, leaf_appended}
use Rattle.code_layout.proofs.search.+push_search.Goals as goal

pub push_search-requires : goal.push_search-requires
push_search-requires t c =
    let sites = c.args.sites.now in
    let below = c.split_at.result.0.now in
    let above = c.split_at.result.1.now in
    let split = c.split_at.ensures in
    let halves = halved sites below above (grind arith) split.front split.back split.front_len split.back_len in
    let less = halves.less in
    let all = halves.all in (
      omega (arith, c.decreases, less),
      (
        c.requires.places,
        (
          rise_below sites below above halves c.requires.sites,
          room_fork c.args.code.now.items c.push_fork.new.code.items below above _ _ 8388608 (omega (arith, less, all)) c.in_ok-push_fork.ensures (omega (arith, c.requires.few, all)),
        ),
      ),
    )

pub push_search-requires-2 : goal.push_search-requires-2
push_search-requires-2 t c =
    let sites = c.args.sites.now in
    let below = c.split_at.result.0.now in
    let above = c.split_at.result.1.now in
    let split = c.split_at.ensures in
    let halves = halved sites below above (grind arith) split.front split.back split.front_len split.back_len in
    let some = halves.some in
    let all = halves.all in (
      omega (arith, c.decreases, some, all),
      (
        c.requires.places,
        (
          rise_above sites below above halves c.requires.sites,
          room_behind (start_of c.args.places.now) c.args.code.now.items c.push_fork.new.code.items c.push_search.new.code.items
              below above _ _ 8388608 some c.in_ok-push_fork.ensures c.in_ok-push_search.ensures (omega (arith, c.requires.few, all)),
        ),
      ),
    )

pub returns : goal.returns
returns t c =
    let sites = c.args.sites.now in
    let below = c.split_at.result.0.now in
    let above = c.split_at.result.1.now in
    let old = c.args.code.now.items in
    let split = c.split_at.ensures in
    let halves = halved sites below above (grind arith) split.front split.back split.front_len split.back_len in
    let fork = c.in_ok-push_fork.ensures ∙ ap (λ n. old ++ fork_words (length old) (get_or above 0 0) (n + 15 * length below)) (c.len.ensures ∙ c.args.code.now.ok.0) in
    let fits : get_or above 0 0 < 2 ^ 64 = omega (arith, split.by_index.2 0 0, c.type_inv.sites (length sites / 2 + 0)) in
    on_ok_weaker c.push_search-2.result
    (λ (second : AppendsSearch (start_of c.args.places.now) above c.push_search.new.code.items c.push_search-2.new.code.items).
    forked_halves (start_of c.args.places.now) old c.push_fork.new.code.items c.push_search.new.code.items c.push_search-2.new.code.items
    sites below above halves c.requires.sites fits fork c.in_ok-push_search.ensures second)
    c.push_search-2.ensures

pub returns-then-sites-eq1 : goal.returns-then-sites-eq1
returns-then-sites-eq1 t c =
    let sites = c.args.sites.now in
    let site = get_or sites 0 0 in
    on_ok_weaker c.push_leaf.result
    (λ words. leaf_appended (start_of c.args.places.now) c.args.code.now.items c.push_leaf.new.code.items sites site c.start_of.result c.if-sites-eq1.true refl
    (omega (arith, c.type_inv.sites 0)) c.start_of.ensures.value words)
    c.push_leaf.ensures
