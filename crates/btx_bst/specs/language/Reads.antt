-- What reading something at a place comes to: the thing and the place after it, or a complaint and the place where it is met.
use Rattle.btx_bst.specs.language.Places.{Place}
use Rattle.btx_bst.specs.language.Complaints.{Complaint}

-- what was read and the place after it, or what is wrong and the place of the fault
pub data Read (A : Type 0) : Type 0 where
  Took : A → Place → Read A
  Mistake : Complaint → Place → Read A
