use Rattle.std.proofs.Common.{◌≡◌}
use Rattle.std.specs.Prelude.{None}
use Rattle.std.specs.Fmt.{digits}
use Rattle.std.specs.String.{string_bytes}
use Rattle.replica.specs.Listing.{empty_listing}
use Rattle.replica.specs.Chosen.{asked_of}
use Rattle.replica.proofs.Listed.{none_listed}
use Rattle.replica.proofs.listed_objects.listing_of.Goals as goal

pub returns-in_ok-from_str-in-None : goal.returns-in_ok-from_str-in-None
unfolding digits
returns-in_ok-from_str-in-None c pieces found =
    let none : c.args.replica.now ≡ None = cc (c.in-None.is) in
    let text : string_bytes c.in_ok-from_str-in-None.field-0 ≡ empty_listing = c.in_ok-from_str-in-None.ensures.ok in
    none_listed (asked_of c.args.choice) pieces c.args.replica.now (string_bytes c.in_ok-from_str-in-None.field-0) none text found
