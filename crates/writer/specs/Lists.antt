-- The four lists as the code hands them on: one for each place, in the order of the places.
use Rattle.std.specs.Prelude.{List, [], ◌∷◌, ℤ}
use Rattle.writer.specs.declared.lists.Lists.{Lists}

abbrev pub of_lists : Lists → List (List ℤ)
of_lists l = l.stations.now ∷ l.sources.now ∷ l.days.now ∷ l.passes.now ∷ []
