use Rattle.std.proofs.Common.{◌≡◌, ◌-◌, ◌*◌}
use Rattle.fit.specs.Rates.{scaled, tilt, fit_of, mirror}
use Rattle.fit.specs.Greedy.{grow}
use Rattle.fit.proofs.Halves.{Half}
use Rattle.fit.proofs.run.longest_run.Given as goal

abbrev pub invariant-loop-c : goal.invariant-loop-c
invariant-loop-c l = record {
  runs : grow (fit_of l.samples.values.now l.samples.tolerance) (l.most - l.c) l.first l.c ≡ grow (fit_of l.samples.values.now l.samples.tolerance) (l.most - 1) l.first 1;
  plain : Half (scaled l.samples.values.now) (65536 * l.samples.tolerance) l.first l.plain l.c l.least;
  turned : Half (mirror (scaled l.samples.values.now) (65536 * l.samples.tolerance) tilt) (65536 * l.samples.tolerance) l.first l.turned l.c l.turned_least;
}
