mod Evaluated
