use Rattle.bulletin.proofs.ListingLaws.{Listing}
use Rattle.bulletin.proofs.listing.list_rows.Given as goal

abbrev pub invariant-loop-n : goal.invariant-loop-n
invariant-loop-n l = Listing l.text l.at l.n l.dates l.starts
