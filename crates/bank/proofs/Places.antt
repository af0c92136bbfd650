-- What an answer of yes tells of a resource's number, and of a party's.
use Rattle.std.proofs.Common.{◌≡◌, ℕ, ◌<◌, None, arith}
use Rattle.std.proofs.lemmas.Bool.Decides.{nat_tests}
use Rattle.text.specs.Questions.{first_no}
use Rattle.bank.specs.declared.size.TheConstants.{PARTIES}
use Rattle.bank.specs.Questions.{index_questions, check_party_questions}

pub index_below : (count r : ℕ) → first_no (index_questions count r) ≡ None → r < count
index_below count r e = grind (arith, nat_tests)

pub party_below : (p : ℕ) → first_no (check_party_questions p) ≡ None → p < PARTIES
party_below p e = grind (arith, nat_tests)
