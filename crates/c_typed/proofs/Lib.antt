mod Induction
