use Rattle.std.proofs.Common.{◌≡◌, map, take}
use Rattle.text.specs.Bytes.{pasted, bytes_of_all}
use Rattle.text.proofs.bytes.put_all.Given as goal

abbrev pub invariant-loop-j : goal.invariant-loop-j
invariant-loop-j g l = l.d ≡ pasted l.initial.d l.at (bytes_of_all (take l.j (map g.T.Eight.bits l.ns)))
