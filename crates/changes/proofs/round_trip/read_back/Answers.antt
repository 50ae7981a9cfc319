use Rattle.changes.proofs.Outcomes.{round_trip}
use Rattle.changes.proofs.round_trip.read_back.Goals as goal

pub returns-then-changes-records-clause-law : goal.returns-then-changes-records-clause-law
returns-then-changes-records-clause-law c = round_trip

pub returns-in_err-end-clause-law : goal.returns-in_err-end-clause-law
returns-in_err-end-clause-law c = round_trip

pub returns-clause-law : goal.returns-clause-law
returns-clause-law c = round_trip
