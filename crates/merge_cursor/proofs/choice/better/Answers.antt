use Rattle.std.proofs.Common.{ℕ, sym, subst}
use Rattle.std.specs.Prelude.{Option}
use Rattle.merge_cursor.specs.declared.shards.Shard.{Shard}
use Rattle.merge_cursor.specs.Shards.{IsBestSoFar, StartsWith}
use Rattle.merge_cursor.proofs.Taking.{better_new, better_kept}
use Rattle.merge_cursor.proofs.choice.better.Goals as goal

pub returns-then-comes_before : goal.returns-then-comes_before
returns-then-comes_before c =
    better_new c.args.shards.now c.in-Some.b c.args.i c.args.front.now c.in-Some-first.least.now c.index-shards-b.result
    (subst (λ (o : Option ℕ). IsBestSoFar c.args.shards.now o c.args.i) c.in-Some.is c.requires.best)
    c.requires.front
    c.index-shards-b.is
    (subst (λ (q : Shard). StartsWith c.in-Some-first.least.now q.waiting) (sym c.index-shards-b.is) c.in-Some-first.ensures)
    (sym c.if-comes_before.ensures)

pub returns-else-comes_before : goal.returns-else-comes_before
returns-else-comes_before c =
    better_kept c.args.shards.now c.in-Some.b c.args.i c.args.front.now c.in-Some-first.least.now c.index-shards-b.result
    (subst (λ (o : Option ℕ). IsBestSoFar c.args.shards.now o c.args.i) c.in-Some.is c.requires.best)
    c.requires.front
    c.index-shards-b.is
    (subst (λ (q : Shard). StartsWith c.in-Some-first.least.now q.waiting) (sym c.index-shards-b.is) c.in-Some-first.ensures)
    (sym c.if-comes_before.ensures)
