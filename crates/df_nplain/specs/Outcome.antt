-- How evaluation and execution end in a program without ghosts.

-- what can be wrong: a number outside its range; a divisor that is 0; a number that is no character; or places that
-- coincide and are given values that are not equal
pub data Fault : Type 0 where
  Range : Fault
  Divisor : Fault
  Cast : Fault
  Distinct : Fault

-- It gives something; or it is wrong; or the depth does not reach; or it is stuck: a value is of another kind than is
-- asked for, a local that is read has none, a method is not there, or a break is in no loop.
pub data Outcome (A : Type 0) : Type 0 where
  Gives : A → Outcome A
  Wrong : Fault → Outcome A
  TooDeep : Outcome A
  Stuck : Outcome A

-- goes on with what is given
abbrev pub after : {A B : Type 0} → Outcome A → (A → Outcome B) → Outcome B
after (Gives a) go = go a
after (Wrong fault) go = Wrong fault
after TooDeep go = TooDeep
after Stuck go = Stuck
