use Rattle.std.specs.Prelude.{◌≡◌, ◌+◌, get_or}
use Rattle.std.proofs.Common.{sym}
use Rattle.std.proofs.lemmas.List.{get_or_read}
use Rattle.covariance.specs.Gradients.{found_at}
use Rattle.value_cache.specs.Slots.{bodies_of, cells_of}
use Rattle.adjoint_pass.proofs.Nodes.{place-there}
use Rattle.adjoint_pass.proofs.Sweeping.{IsSweep, found_more, found_all, gradient_there, gradient_missing, spent_next, spent_all}
use Rattle.adjoint_pass.proofs.sweep.sweep.Goals as goal

pub next_sensitivity-requires-clause-there : goal.next_sensitivity-requires-clause-there
next_sensitivity-requires-clause-there g c =
    place-there c.args.graph.now c.args.y c.args.cone.now c.requires.cone c.loop-n.n-index c.n-item.result c.loop-n-test.true c.n-item.is

pub returns-in_default-clause-law : goal.returns-in_default-clause-law
returns-in_default-clause-law g c = λ same.
    let w : IsSweep c.args.graph.now (bodies_of c.args.cache.now) (cells_of c.args.cache.now) c.args.y c.args.cone.now =
    record { graph = c.requires.graph; cone = c.requires.cone; right = c.requires.right; fresh = c.requires.fresh } in
    gradient_missing c.args.graph.now (bodies_of c.args.cache.now) (cells_of c.args.cache.now) c.args.y c.args.cone.now w c.loop-n.n-index c.n-item.result
    (found_at c.loop-n.found) c.in_default.field-0 c.loop-n-test.true c.in_default.ensures.span c.loop-n.invariant.found
    (sym (get_or_read c.args.cone.now c.loop-n.n-index c.n-item.result c.loop-n-test.true c.n-item.is 0))

pub returns-in_default-clause-ticks : goal.returns-in_default-clause-ticks
returns-in_default-clause-ticks g c =
    let w : IsSweep c.args.graph.now (bodies_of c.args.cache.now) (cells_of c.args.cache.now) c.args.y c.args.cone.now =
    record { graph = c.requires.graph; cone = c.requires.cone; right = c.requires.right; fresh = c.requires.fresh } in
    spent_all c.args.graph.now (bodies_of c.args.cache.now) (cells_of c.args.cache.now) c.args.y c.args.cone.now w (c.loop-n.n-index + 1) c.next_sensitivity.new.steps c.args.steps.now
    (spent_next c.args.graph.now (bodies_of c.args.cache.now) (cells_of c.args.cache.now) c.args.y c.args.cone.now w c.loop-n.n-index c.n-item.result
    c.loop-n.steps c.next_sensitivity.new.steps c.args.steps.now (found_at c.loop-n.found) c.loop-n-test.true c.next_sensitivity.ensures.ticks c.loop-n.invariant.found c.loop-n.invariant.ticks
    (sym (get_or_read c.args.cone.now c.loop-n.n-index c.n-item.result c.loop-n-test.true c.n-item.is 0)))

pub returns-in_err-put-clause-ticks : goal.returns-in_err-put-clause-ticks
returns-in_err-put-clause-ticks g c =
    let w : IsSweep c.args.graph.now (bodies_of c.args.cache.now) (cells_of c.args.cache.now) c.args.y c.args.cone.now =
    record { graph = c.requires.graph; cone = c.requires.cone; right = c.requires.right; fresh = c.requires.fresh } in
    spent_all c.args.graph.now (bodies_of c.args.cache.now) (cells_of c.args.cache.now) c.args.y c.args.cone.now w (c.loop-n.n-index + 1) c.next_sensitivity.new.steps c.args.steps.now
    (spent_next c.args.graph.now (bodies_of c.args.cache.now) (cells_of c.args.cache.now) c.args.y c.args.cone.now w c.loop-n.n-index c.n-item.result
    c.loop-n.steps c.next_sensitivity.new.steps c.args.steps.now (found_at c.loop-n.found) c.loop-n-test.true c.next_sensitivity.ensures.ticks c.loop-n.invariant.found c.loop-n.invariant.ticks
    (sym (get_or_read c.args.cone.now c.loop-n.n-index c.n-item.result c.loop-n-test.true c.n-item.is 0)))

pub loop-n-preserved : goal.loop-n-preserved
loop-n-preserved g c =
    let w : IsSweep c.args.graph.now (bodies_of c.args.cache.now) (cells_of c.args.cache.now) c.args.y c.args.cone.now =
    record { graph = c.requires.graph; cone = c.requires.cone; right = c.requires.right; fresh = c.requires.fresh } in
    let at : get_or c.args.cone.now c.loop-n.n-index 0 ≡ c.n-item.result =
    sym (get_or_read c.args.cone.now c.loop-n.n-index c.n-item.result c.loop-n-test.true c.n-item.is 0) in
    record {
      found = found_more c.args.graph.now (bodies_of c.args.cache.now) (cells_of c.args.cache.now) c.args.y c.args.cone.now w c.loop-n.n-index c.n-item.result c.in-Ok.a
          (found_at c.loop-n.found) (found_at c.put.new.self) c.loop-n-test.true c.in-Ok.ensures.span c.in_ok-put.ensures.ok c.loop-n.invariant.found at;
      ticks = spent_next c.args.graph.now (bodies_of c.args.cache.now) (cells_of c.args.cache.now) c.args.y c.args.cone.now w c.loop-n.n-index c.n-item.result
          c.loop-n.steps c.next_sensitivity.new.steps c.args.steps.now (found_at c.loop-n.found) c.loop-n-test.true c.next_sensitivity.ensures.ticks c.loop-n.invariant.found c.loop-n.invariant.ticks at;
    }

pub returns-clause-ok : goal.returns-clause-ok
returns-clause-ok g c =
    let w : IsSweep c.args.graph.now (bodies_of c.args.cache.now) (cells_of c.args.cache.now) c.args.y c.args.cone.now =
    record { graph = c.requires.graph; cone = c.requires.cone; right = c.requires.right; fresh = c.requires.fresh } in
    found_all c.args.graph.now (bodies_of c.args.cache.now) (cells_of c.args.cache.now) c.args.y c.args.cone.now w c.loop-n.n-index (found_at c.loop-n.found)
    c.loop-n-test.false c.loop-n.invariant.found

pub returns-clause-whole : goal.returns-clause-whole
returns-clause-whole g c =
    let w : IsSweep c.args.graph.now (bodies_of c.args.cache.now) (cells_of c.args.cache.now) c.args.y c.args.cone.now =
    record { graph = c.requires.graph; cone = c.requires.cone; right = c.requires.right; fresh = c.requires.fresh } in
    gradient_there c.args.graph.now (bodies_of c.args.cache.now) (cells_of c.args.cache.now) c.args.y c.args.cone.now w c.loop-n.n-index (found_at c.loop-n.found)
    c.loop-n-test.false c.loop-n.invariant.found

pub returns-clause-ticks : goal.returns-clause-ticks
returns-clause-ticks g c =
    let w : IsSweep c.args.graph.now (bodies_of c.args.cache.now) (cells_of c.args.cache.now) c.args.y c.args.cone.now =
    record { graph = c.requires.graph; cone = c.requires.cone; right = c.requires.right; fresh = c.requires.fresh } in
    spent_all c.args.graph.now (bodies_of c.args.cache.now) (cells_of c.args.cache.now) c.args.y c.args.cone.now w c.loop-n.n-index c.loop-n.steps c.args.steps.now
    c.loop-n.invariant.ticks
